-- A composite's change leads from its members' old elements to their new ones; so does that of a member attached or detached.
use Rattle.std.proofs.Common.{◌≡◌, ◌∙◌, ℕ, zero, suc, List, [], ◌∷◌, ◌++◌, length, map, take, drop, flat_map, refl, ap, sym, subst, arith}
use Rattle.std.specs.List.{Contains, remove}
use Rattle.std.proofs.lemmas.Grind.{flat_map-append}
use Rattle.std.proofs.lemmas.List.{append-nil}
use Rattle.spec_value.specs.Tree.{Tree}
use Rattle.spec_lists.specs.Piece.{Piece, deleted, identity, IsNormal, normal}
use Rattle.spec_lists.specs.Delta.{Delta}
use Rattle.spec_lists.specs.Leads.{IsDelta}
use Rattle.spec_lists.proofs.Normal.{IsNormal-normal}
use Rattle.spec_lists.proofs.DeltaEdits.{identity_normal, identity_leads, append_leads, append_normal, clear_leads}
use Rattle.spec_lists.proofs.DeltaLeads.{normal_leads}
use Rattle.spec_lists.proofs.Made.{leads_append, between}
use Rattle.spec_views.specs.Composite.{members_len, composite_view, composite_follow, attach_told, detach_told}

here : (x : ℕ) (xs : List ℕ) → Contains (x ∷ xs) x
here x xs = (0, omega arith, refl)

later : (x : ℕ) (xs : List ℕ) (y : ℕ) → Contains xs y → Contains (x ∷ xs) y
later x xs y h = (suc h.0, (let lt = h.1 in omega arith), h.2)

side_by_side : (members : List ℕ) (before after : ℕ → List Tree) (delta : ℕ → Delta)
    → ((i : ℕ) → Contains members i → IsDelta (delta i) (before i) (after i))
    → IsDelta (flat_map delta members) (flat_map before members) (flat_map after members)
side_by_side [] before after delta lead = record { starts = tt; ends = refl }
side_by_side (m ∷ ms) before after delta lead =
    leads_append _ _ _ _ _ _ (lead m (here m ms)) (side_by_side ms before after delta (λ i d. lead i (later m ms i d)))

-- where each member changes by its delta, the composite changes by these side by side
pub composite_leads : (members : List ℕ) (before after : ℕ → List Tree) (delta : ℕ → Delta)
    → ((i : ℕ) → Contains members i → IsDelta (delta i) (before i) (after i))
    → IsDelta (composite_follow members delta) (composite_view members before) (composite_view members after)
composite_leads members before after delta lead = normal_leads _ _ _ (side_by_side members before after delta lead)

pub composite_normal : (members : List ℕ) (delta : ℕ → Delta)
    → IsNormal (composite_follow members delta)
composite_normal members delta = IsNormal-normal (flat_map delta members)

-- what a composite shows depends on its members alone
pub composite_local : (members : List ℕ) (f g : ℕ → List Tree)
    → ((i : ℕ) → Contains members i → f i ≡ g i)
    → composite_view members f ≡ composite_view members g
composite_local [] f g same = refl
composite_local (m ∷ ms) f g same = both _ _ _ _ (same m (here m ms)) (composite_local ms f g (λ i d. same i (later m ms i d)))
  where
    both : (a b c d : List Tree) → a ≡ b → c ≡ d → a ++ c ≡ b ++ d
    both a b c d e f = cc

pub composite_follow_local : (members : List ℕ) (f g : ℕ → Delta)
    → ((i : ℕ) → Contains members i → f i ≡ g i)
    → composite_follow members f ≡ composite_follow members g
composite_follow_local members f g same = ap normal (all members f g same)
  where
    both : (a b c d : Delta) → a ≡ b → c ≡ d → a ++ c ≡ b ++ d
    both a b c d e f = cc

    all : (ms : List ℕ) (f g : ℕ → Delta) → ((i : ℕ) → Contains ms i → f i ≡ g i)
        → flat_map f ms ≡ flat_map g ms
    all [] f g same = refl
    all (m ∷ ms) f g same = both _ _ _ _ (same m (here m ms)) (all ms f g (λ i d. same i (later m ms i d)))

-- a member attached
pub attach_leads : (members : List ℕ) (shows : ℕ → List Tree) (member : ℕ)
    → IsDelta (attach_told members shows member) (composite_view members shows) (composite_view (members ++ member ∷ []) shows)
attach_leads members shows member =
    between (append_leads (composite_view members shows) (shows member)) refl
    (flat_map-append shows members (member ∷ []) ∙ ap (λ ys. composite_view members shows ++ ys) (append-nil (shows member)))

pub attach_normal : (members : List ℕ) (shows : ℕ → List Tree) (member : ℕ)
    → IsNormal (attach_told members shows member)
attach_normal members shows member = append_normal (length (composite_view members shows)) (shows member)

-- the members before an index, the one at it, and those after it
parts : (members : List ℕ) (index : ℕ)
    → members ≡ (take index members ++ take 1 (drop index members)) ++ drop (suc index) members
parts [] zero = refl
parts [] (suc index) = refl
parts (m ∷ ms) zero = refl
parts (m ∷ ms) (suc index) = ap (λ xs. m ∷ xs) (parts ms index)

-- a member detached
pub detach_leads : (members : List ℕ) (shows : ℕ → List Tree) (index : ℕ)
    → IsDelta (detach_told members shows index) (composite_view members shows) (composite_view (remove members index) shows)
detach_leads members shows index =
    let prefix : List Tree = composite_view (take index members) shows in
    let part : List Tree = composite_view (take 1 (drop index members)) shows in
    let rest : List Tree = composite_view (drop (suc index) members) shows in
    let whole : composite_view members shows ≡ (prefix ++ part) ++ rest =
    ap (λ ms. composite_view ms shows) (parts members index)
    ∙ flat_map-append shows (take index members ++ take 1 (drop index members)) (drop (suc index) members)
    ∙ ap (λ xs. xs ++ rest) (flat_map-append shows (take index members) (take 1 (drop index members))) in
    let left : composite_view (remove members index) shows ≡ (prefix ++ []) ++ rest =
    flat_map-append shows (take index members) (drop (suc index) members) ∙ ap (λ xs. xs ++ rest) (sym (append-nil prefix)) in
    between (leads_append _ _ _ _ _ _ (leads_append _ _ _ _ _ _ (identity_leads prefix) (clear_leads part)) (identity_leads rest)) whole left

detached_normal : (a : ℕ) (part : List Tree) (c : ℕ)
    → IsNormal ((identity a ++ map deleted part) ++ identity c)
detached_normal zero [] c = identity_normal c
detached_normal zero (x ∷ part) c = detached_normal zero part c
detached_normal (suc a) part c = detached_normal a part c

pub detach_normal : (members : List ℕ) (shows : ℕ → List Tree) (index : ℕ)
    → IsNormal (detach_told members shows index)
detach_normal members shows index = detached_normal (members_len (take index members) shows) (composite_view (take 1 (drop index members)) shows) (members_len (drop (suc index) members) shows)
