-- A proxy shows what its input showed after the part of the order to which the proxy has come.
use Rattle.std.proofs.Common.{◌≡◌, ◌∙◌, ◌≤◌, ◌-◌, ◌==◌, ◌&&◌, ◌++◌, ℕ, zero, suc, Bool, true, false, cond, List, [], ◌∷◌, length, refl, ap, sym, subst, arith}
use Rattle.std.specs.Prelude.{Some, slice_get}
use Rattle.std.proofs.lemmas.Bool.{ne_eqb}
use Rattle.std.proofs.lemmas.List.{append_assoc, append-nil}
use Rattle.spec_value.specs.Tree.{Tree}
use Rattle.spec_lists.specs.Delta.{Delta, is_identity}
use Rattle.spec_lists.specs.Leads.{IsDelta, applied}
use Rattle.gl_outside.specs.declared.gate.Actor.{Actor}
use Rattle.spec_plans.specs.Plan.{Plan}
use Rattle.spec_runs.specs.Run.{shown_after}
use Rattle.spec_runs.specs.Prefix.{entry_delta, before_change}
use Rattle.spec_runs.specs.Laws.{heard}
use Rattle.spec_runs.proofs.Identities.{identity_stays}

-- ---- the changes of a list along an order

-- the deltas that aren't the identity, of the entries of what is left of an order after what was taken
abbrev pub changed_from : Plan → ℕ → List Actor → List Actor → List Delta
changed_from p input taken [] = []
changed_from p input taken (a ∷ rest) =
    cond (is_identity (entry_delta p taken a input)) (changed_from p input (taken ++ a ∷ []) rest)
    (entry_delta p taken a input ∷ changed_from p input (taken ++ a ∷ []) rest)

-- what the list showed before the entry in which it changed after so many changes; where there is none, what it shows
abbrev pub shown_before : Plan → ℕ → List Actor → ℕ → List Actor → List Tree
shown_before p input taken k rest = shown_after p (taken ++ before_change p input taken k rest) input

and_false : (b : Bool) → (b && false) ≡ false
and_false true = refl
and_false false = refl

less_one : (k : ℕ) → suc k - 1 ≡ k
less_one k = omega arith

before_same : (p : Plan) (input : ℕ) (taken : List Actor) (k : ℕ) (a : Actor) (rest : List Actor)
    → is_identity (entry_delta p taken a input) ≡ true
    → before_change p input taken k (a ∷ rest) ≡ a ∷ before_change p input (taken ++ a ∷ []) k rest
before_same p input taken k a rest e = rw (e, and_false (k == 0)) refl

before_now : (p : Plan) (input : ℕ) (taken : List Actor) (a : Actor) (rest : List Actor)
    → is_identity (entry_delta p taken a input) ≡ false
    → before_change p input taken 0 (a ∷ rest) ≡ []
before_now p input taken a rest e = rw e refl

before_later : (p : Plan) (input : ℕ) (taken : List Actor) (k : ℕ) (a : Actor) (rest : List Actor)
    → is_identity (entry_delta p taken a input) ≡ false
    → before_change p input taken (suc k) (a ∷ rest)
    ≡ a ∷ before_change p input (taken ++ a ∷ []) k rest
before_later p input taken k a rest e =
    rw (e, ne_eqb (suc k) 0 (λ same. absurd (omega (arith, same))), less_one k) refl

changed_same : (p : Plan) (input : ℕ) (taken : List Actor) (a : Actor) (rest : List Actor)
    → is_identity (entry_delta p taken a input) ≡ true
    → changed_from p input taken (a ∷ rest) ≡ changed_from p input (taken ++ a ∷ []) rest
changed_same p input taken a rest e = rw e refl

changed_now : (p : Plan) (input : ℕ) (taken : List Actor) (a : Actor) (rest : List Actor)
    → is_identity (entry_delta p taken a input) ≡ false
    → changed_from p input taken (a ∷ rest)
    ≡ entry_delta p taken a input ∷ changed_from p input (taken ++ a ∷ []) rest
changed_now p input taken a rest e = rw e refl

-- what is shown at a place after the next actor
after_next : (p : Plan) (input : ℕ) (taken : List Actor) (a : Actor) (prefix more : List Actor)
    → prefix ≡ a ∷ more
    → shown_after p (taken ++ prefix) input ≡ shown_after p ((taken ++ a ∷ []) ++ more) input
after_next p input taken a prefix more e =
    ap (λ xs. shown_after p xs input) (ap (λ xs. taken ++ xs) e ∙ sym (append_assoc taken (a ∷ []) more))

shown_same : (p : Plan) (input : ℕ) (taken : List Actor) (k : ℕ) (a : Actor) (rest : List Actor)
    → is_identity (entry_delta p taken a input) ≡ true
    → shown_before p input taken k (a ∷ rest) ≡ shown_before p input (taken ++ a ∷ []) k rest
shown_same p input taken k a rest e =
    after_next p input taken a (before_change p input taken k (a ∷ rest))
    (before_change p input (taken ++ a ∷ []) k rest) (before_same p input taken k a rest e)

shown_now : (p : Plan) (input : ℕ) (taken : List Actor) (a : Actor) (rest : List Actor)
    → is_identity (entry_delta p taken a input) ≡ false
    → shown_before p input taken 0 (a ∷ rest) ≡ shown_after p taken input
shown_now p input taken a rest e =
    ap (λ xs. shown_after p xs input)
    (ap (λ xs. taken ++ xs) (before_now p input taken a rest e) ∙ append-nil taken)

shown_later : (p : Plan) (input : ℕ) (taken : List Actor) (k : ℕ) (a : Actor) (rest : List Actor)
    → is_identity (entry_delta p taken a input) ≡ false
    → shown_before p input taken (suc k) (a ∷ rest) ≡ shown_before p input (taken ++ a ∷ []) k rest
shown_later p input taken k a rest e =
    after_next p input taken a (before_change p input taken (suc k) (a ∷ rest))
    (before_change p input (taken ++ a ∷ []) k rest) (before_later p input taken k a rest e)

-- the deltas of all entries lead from what the list showed to what it shows
abbrev pub EachLeads : Plan → ℕ → Type 0
EachLeads p input = (order : List Actor) (a : Actor)
    → IsDelta (entry_delta p order a input) (shown_after p order input) (shown_after p (order ++ a ∷ []) input)

-- before its first change the list shows what it does
pub shown_first_before : (p : Plan) (input : ℕ) → EachLeads p input → (taken rest : List Actor)
    → shown_before p input taken 0 rest ≡ shown_after p taken input
shown_first_before p input leads taken [] = ap (λ xs. shown_after p xs input) (append-nil taken)
shown_first_before p input leads taken (a ∷ rest) =
    by_case (is_identity (entry_delta p taken a input)) refl (shown_first_before p input leads (taken ++ a ∷ []) rest)
  where
    by_case : (b : Bool) → is_identity (entry_delta p taken a input) ≡ b
        → shown_before p input (taken ++ a ∷ []) 0 rest ≡ shown_after p (taken ++ a ∷ []) input
        → shown_before p input taken 0 (a ∷ rest) ≡ shown_after p taken input
    by_case true e h =
        shown_same p input taken 0 a rest e ∙ h
        ∙ identity_stays (entry_delta p taken a input) (shown_after p taken input)
        (shown_after p (taken ++ a ∷ []) input) (leads taken a) e
    by_case false e h = shown_now p input taken a rest e

-- from one change to the next it shows what the first of them makes of it
pub shown_next_before : (p : Plan) (input : ℕ) → EachLeads p input
    → (taken rest : List Actor) (k : ℕ) (d : Delta)
    → slice_get (changed_from p input taken rest) k ≡ Some d
    → shown_before p input taken (suc k) rest ≡ applied d (shown_before p input taken k rest)
shown_next_before p input leads taken [] k d at_k = absurd cc
shown_next_before p input leads taken (a ∷ rest) k d at_k =
    by_case (is_identity (entry_delta p taken a input)) refl k at_k
    (λ j there. shown_next_before p input leads (taken ++ a ∷ []) rest j d there)
  where
    then : List Actor
    then = taken ++ a ∷ []

    by_case : (b : Bool) → is_identity (entry_delta p taken a input) ≡ b → (k : ℕ)
        → slice_get (changed_from p input taken (a ∷ rest)) k ≡ Some d
        → ((j : ℕ) → slice_get (changed_from p input then rest) j ≡ Some d → shown_before p input then (suc j) rest ≡ applied d (shown_before p input then j rest))
        → shown_before p input taken (suc k) (a ∷ rest)
        ≡ applied d (shown_before p input taken k (a ∷ rest))
    by_case true e k at_k others =
        shown_same p input taken (suc k) a rest e
        ∙ others k (ap (λ ds. slice_get ds k) (sym (changed_same p input taken a rest e)) ∙ at_k)
        ∙ ap (applied d) (sym (shown_same p input taken k a rest e))
    by_case false e zero at_k others =
        let first : Some (entry_delta p taken a input) ≡ Some d =
        ap (λ ds. slice_get ds 0) (sym (changed_now p input taken a rest e)) ∙ at_k in
        let same : entry_delta p taken a input ≡ d = cc in
        let lead = leads taken a in
        shown_later p input taken 0 a rest e ∙ shown_first_before p input leads then rest ∙ lead.ends
        ∙ ap (λ c. applied c (shown_after p taken input)) same
        ∙ ap (applied d) (sym (shown_now p input taken a rest e))
    by_case false e (suc k) at_k others =
        shown_later p input taken (suc k) a rest e
        ∙ others k (ap (λ ds. slice_get ds (suc k)) (sym (changed_now p input taken a rest e)) ∙ at_k)
        ∙ ap (applied d) (sym (shown_later p input taken k a rest e))

-- one entry more leaves what was shown before the changes so far
pub shown_push : (p : Plan) (input : ℕ) → EachLeads p input
    → (taken rest : List Actor) (a : Actor) (k : ℕ) → k ≤ length (changed_from p input taken rest)
    → shown_before p input taken k (rest ++ a ∷ []) ≡ shown_before p input taken k rest
shown_push p input leads taken [] a zero low =
    shown_first_before p input leads taken (a ∷ []) ∙ sym (shown_first_before p input leads taken [])
shown_push p input leads taken [] a (suc k) low = absurd (omega (arith, low))
shown_push p input leads taken (b ∷ rest) a k low =
    by_case (is_identity (entry_delta p taken b input)) refl k low
    (λ j there. shown_push p input leads (taken ++ b ∷ []) rest a j there)
  where
    then : List Actor
    then = taken ++ b ∷ []

    by_case : (t : Bool) → is_identity (entry_delta p taken b input) ≡ t → (k : ℕ)
        → k ≤ length (changed_from p input taken (b ∷ rest))
        → ((j : ℕ) → j ≤ length (changed_from p input then rest) → shown_before p input then j (rest ++ a ∷ []) ≡ shown_before p input then j rest)
        → shown_before p input taken k (b ∷ (rest ++ a ∷ []))
        ≡ shown_before p input taken k (b ∷ rest)
    by_case true e k low others =
        let long : length (changed_from p input taken (b ∷ rest)) ≡ length (changed_from p input then rest) =
        ap length (changed_same p input taken b rest e) in
        shown_same p input taken k b (rest ++ a ∷ []) e ∙ others k (omega (arith, low, long))
        ∙ sym (shown_same p input taken k b rest e)
    by_case false e zero low others =
        shown_now p input taken b (rest ++ a ∷ []) e ∙ sym (shown_now p input taken b rest e)
    by_case false e (suc k) low others =
        let long : length (changed_from p input taken (b ∷ rest)) ≡ suc (length (changed_from p input then rest)) =
        ap length (changed_now p input taken b rest e) in
        shown_later p input taken k b (rest ++ a ∷ []) e ∙ others k (omega (arith, low, long))
        ∙ sym (shown_later p input taken k b rest e)

-- and adds its own change, if it is one
pub changed_push : (p : Plan) (input : ℕ) (taken rest : List Actor) (a : Actor)
    → changed_from p input taken (rest ++ a ∷ [])
    ≡ changed_from p input taken rest ++ heard (entry_delta p (taken ++ rest) a input)
changed_push p input taken [] a =
    subst (λ xs. changed_from p input taken (a ∷ []) ≡ heard (entry_delta p xs a input)) (sym (append-nil taken)) refl
changed_push p input taken (b ∷ rest) a =
    by_case (is_identity (entry_delta p taken b input)) refl
    (subst (λ xs. changed_from p input then (rest ++ a ∷ [])
    ≡ changed_from p input then rest ++ heard (entry_delta p xs a input))
    (append_assoc taken (b ∷ []) rest) (changed_push p input then rest a))
  where
    then : List Actor
    then = taken ++ b ∷ []

    more : List Delta
    more = heard (entry_delta p (taken ++ b ∷ rest) a input)

    by_case : (t : Bool) → is_identity (entry_delta p taken b input) ≡ t
        → changed_from p input then (rest ++ a ∷ []) ≡ changed_from p input then rest ++ more
        → changed_from p input taken (b ∷ (rest ++ a ∷ []))
        ≡ changed_from p input taken (b ∷ rest) ++ more
    by_case true e h =
        changed_same p input taken b (rest ++ a ∷ []) e ∙ h
        ∙ ap (λ ds. ds ++ more) (sym (changed_same p input taken b rest e))
    by_case false e h =
        changed_now p input taken b (rest ++ a ∷ []) e ∙ ap (λ ds. entry_delta p taken b input ∷ ds) h
        ∙ ap (λ ds. ds ++ more) (sym (changed_now p input taken b rest e))
