-- The deltas of a section lead from what the lists showed before it to what they show after it.
use Rattle.std.proofs.Common.{◌≡◌, ◌∙◌, ℕ, zero, suc, ◌+◌, ◌<◌, List, [], ◌∷◌, length, refl, ap, sym, subst, arith}
use Rattle.spec_value.specs.Tree.{Tree}
use Rattle.spec_lists.specs.Piece.{Piece, identity, IsNormal, old_len, new_len}
use Rattle.spec_lists.specs.Leads.{IsDelta}
use Rattle.spec_lists.specs.Delta.{composed}
use Rattle.spec_lists.proofs.DeltaLeads.{composition_leads, length_from, length-applied}
use Rattle.spec_lists.proofs.Merge.{Merge, merge_of, composed_merge}
use Rattle.spec_lists.proofs.Normal.{IsNormal-normal}
use Rattle.spec_lists.proofs.Composition.{composition_is_associative, identity_is_neutral}
use Rattle.gl_lines.specs.declared.plan.Command.{Command}
use Rattle.spec_states.specs.State.{State}
use Rattle.spec_states.specs.Shown.{Table, shows_in, table_of}
use Rattle.spec_states.specs.Wave.{Deltas, delta_in, unchanged}
use Rattle.spec_states.specs.Step.{step}
use Rattle.spec_states.specs.Laws.{IsSound, Lead}
use Rattle.spec_runs.specs.Section.{state_after, composed_all, deltas_after, section_deltas}
use Rattle.spec_runs.proofs.KeptKinds.{AllSuit, all_suit_kept, step_keeps}
use Rattle.spec_states.proofs.Views.{length-table_of}
use Rattle.spec_states.proofs.Waves.{unchanged_at, unchanged_leads, step_leads, step_sound}

-- ---- one delta a list, composed list by list

pub composed_at : (ps qs : Deltas) (k : ℕ) → k < length ps → k < length qs
    → delta_in (composed_all ps qs) k ≡ composed (delta_in ps k) (delta_in qs k)
composed_at [] qs k h g = absurd (omega (arith, h))
composed_at (p ∷ ps) [] k h g = absurd (omega (arith, g))
composed_at (p ∷ ps) (q ∷ qs) zero h g = refl
composed_at (p ∷ ps) (q ∷ qs) (suc k) h g = composed_at ps qs k (omega arith) (omega arith)

pub length-composed_all : (ps qs : Deltas) → length qs ≡ length ps
    → length (composed_all ps qs) ≡ length ps
length-composed_all [] qs e = refl
length-composed_all (p ∷ ps) [] e = absurd (omega (arith, e))
length-composed_all (p ∷ ps) (q ∷ qs) e = ap suc (length-composed_all ps qs (omega (arith, e)))

-- as many deltas, each the same
pub same_deltas : (ps qs : Deltas) → length ps ≡ length qs
    → ((k : ℕ) → k < length ps → delta_in ps k ≡ delta_in qs k) → ps ≡ qs
same_deltas [] [] long same = refl
same_deltas [] (q ∷ qs) long same = absurd (omega (arith, long))
same_deltas (p ∷ ps) [] long same = absurd (omega (arith, long))
same_deltas (p ∷ ps) (q ∷ qs) long same =
    ap (λ d. d ∷ ps) (same 0 (omega arith))
    ∙ ap (λ ds. q ∷ ds) (same_deltas ps qs (omega (arith, long)) (λ k within. same (suc k) (omega (arith, within))))

-- ---- where deltas begin and end

pub old_len_leads : (d : List Piece) (xs ys : List Tree) → IsDelta d xs ys → old_len d ≡ length xs
old_len_leads d xs ys h = sym (length_from d xs h.starts)

pub new_len_leads : (d : List Piece) (xs ys : List Tree) → IsDelta d xs ys → new_len d ≡ length ys
new_len_leads d xs ys h = sym (length-applied d xs h.starts) ∙ ap length (sym h.ends)

-- where a delta ends, the next one begins
pub meet : (p q : List Piece) (xs ys zs : List Tree) → IsDelta p xs ys → IsDelta q ys zs
    → new_len p ≡ old_len q
meet p q xs ys zs h k = new_len_leads p xs ys h ∙ sym (old_len_leads q ys zs k)

pub composed_normal : (p q : List Piece) → new_len p ≡ old_len q → IsNormal (composed p q)
composed_normal p q fits =
    let r : (m : List Piece) × Merge p q m = merge_of (length p + length q) p q (omega arith) fits in
    subst IsNormal (sym (composed_merge r.1)) (IsNormal-normal r.0)

-- a delta, and then nothing, or after nothing
pub composed_nothing : (d : List Piece) (xs ys : List Tree) → IsNormal d → IsDelta d xs ys
    → composed d (identity (length ys)) ≡ d
composed_nothing d xs ys normal h =
    ap (λ n. composed d (identity n)) (sym (new_len_leads d xs ys h)) ∙ (identity_is_neutral d normal).1

pub nothing_composed : (d : List Piece) (xs ys : List Tree) → IsNormal d → IsDelta d xs ys
    → composed (identity (length xs)) d ≡ d
nothing_composed d xs ys normal h =
    ap (λ n. composed (identity n) d) (sym (old_len_leads d xs ys h)) ∙ (identity_is_neutral d normal).0

-- ---- the one, then the other

-- what there is of a list of the first table in both deltas and in the table between
record Both (ps qs : Deltas) (b : Table) (k : ℕ) : Type 0 where
  first : k < length ps
  middle : k < length b
  second : k < length qs

both_there : (ps qs : Deltas) (a b c : Table) (k : ℕ) → Lead ps a b → Lead qs b c → k < length a
    → Both ps qs b k
both_there ps qs a b c k h g within =
    let middle : k < length b = omega (arith, h.same) in
    record { first = omega (arith, h.long); middle = middle; second = omega (arith, g.long, middle) }

-- the delta of a list in the one and then the other
pub composed_in : (ps qs : Deltas) (a b c : Table) (k : ℕ) → Lead ps a b → Lead qs b c
    → k < length a → delta_in (composed_all ps qs) k ≡ composed (delta_in ps k) (delta_in qs k)
composed_in ps qs a b c k h g within =
    let there : Both ps qs b k = both_there ps qs a b c k h g within in
    composed_at ps qs k there.first there.second

pub leads_on : (ps qs : Deltas) (a b c : Table) → Lead ps a b → Lead qs b c
    → Lead (composed_all ps qs) a c
leads_on ps qs a b c h g = record {
  long = length-composed_all ps qs (g.long ∙ h.same ∙ sym h.long) ∙ h.long;
  same = g.same ∙ h.same;
  each = λ k within.
      let there : Both ps qs b k = both_there ps qs a b c k h g within in
      subst (λ d. IsDelta d (shows_in a k) (shows_in c k)) (sym (composed_in ps qs a b c k h g within))
      (composition_leads (delta_in ps k) (delta_in qs k) (shows_in a k) (shows_in b k) (shows_in c k) (h.each k within)
      (g.each k there.middle));
  normal = λ k within.
      let there : Both ps qs b k = both_there ps qs a b c k h g within in
      subst IsNormal (sym (composed_in ps qs a b c k h g within))
      (composed_normal (delta_in ps k) (delta_in qs k)
      (meet (delta_in ps k) (delta_in qs k) (shows_in a k) (shows_in b k) (shows_in c k) (h.each k within)
      (g.each k there.middle)));
}

-- deltas, and then nothing, or after nothing
pub then_unchanged : (ps : Deltas) (a b : Table) → Lead ps a b → composed_all ps (unchanged b) ≡ ps
then_unchanged ps a b h =
    let still : Lead (unchanged b) b b = unchanged_leads b in
    let all : Lead (composed_all ps (unchanged b)) a b = leads_on ps (unchanged b) a b b h still in
    same_deltas (composed_all ps (unchanged b)) ps (all.long ∙ sym h.long)
    (λ k low. same k (omega (arith, low, all.long)))
  where
    same : (k : ℕ) → k < length a → delta_in (composed_all ps (unchanged b)) k ≡ delta_in ps k
    same k within =
        let middle : k < length b = omega (arith, h.same, within) in
        composed_in ps (unchanged b) a b b k h (unchanged_leads b) within
        ∙ ap (composed (delta_in ps k)) (unchanged_at b k middle)
        ∙ composed_nothing (delta_in ps k) (shows_in a k) (shows_in b k) (h.normal k within) (h.each k within)

pub unchanged_then : (ps : Deltas) (a b : Table) → Lead ps a b → composed_all (unchanged a) ps ≡ ps
unchanged_then ps a b h =
    let all : Lead (composed_all (unchanged a) ps) a b = leads_on (unchanged a) ps a a b (unchanged_leads a) h in
    same_deltas (composed_all (unchanged a) ps) ps (all.long ∙ sym h.long)
    (λ k low. same k (omega (arith, low, all.long)))
  where
    same : (k : ℕ) → k < length a → delta_in (composed_all (unchanged a) ps) k ≡ delta_in ps k
    same k within =
        composed_in (unchanged a) ps a a b k (unchanged_leads a) h within
        ∙ ap (λ d. composed d (delta_in ps k)) (unchanged_at a k within)
        ∙ nothing_composed (delta_in ps k) (shows_in a k) (shows_in b k) (h.normal k within) (h.each k within)

-- three, in any grouping
pub composed_all_assoc : (ps qs rs : Deltas) (a b c d : Table) → Lead ps a b → Lead qs b c
    → Lead rs c d → composed_all (composed_all ps qs) rs ≡ composed_all ps (composed_all qs rs)
composed_all_assoc ps qs rs a b c d h g f =
    let left : Lead (composed_all (composed_all ps qs) rs) a d =
    leads_on (composed_all ps qs) rs a c d (leads_on ps qs a b c h g) f in
    let right : Lead (composed_all ps (composed_all qs rs)) a d =
    leads_on ps (composed_all qs rs) a b d h (leads_on qs rs b c d g f) in
    same_deltas (composed_all (composed_all ps qs) rs) (composed_all ps (composed_all qs rs))
    (left.long ∙ sym right.long)
    (λ k low. same k (omega (arith, low, left.long)))
  where
    same : (k : ℕ) → k < length a
        → delta_in (composed_all (composed_all ps qs) rs) k
        ≡ delta_in (composed_all ps (composed_all qs rs)) k
    same k within =
        let middle : k < length b = omega (arith, h.same, within) in
        let third : k < length c = omega (arith, g.same, middle) in
        composed_in (composed_all ps qs) rs a c d k (leads_on ps qs a b c h g) f within
        ∙ ap (λ p. composed p (delta_in rs k)) (composed_in ps qs a b c k h g within)
        ∙ composition_is_associative (delta_in ps k) (delta_in qs k) (delta_in rs k)
        (meet (delta_in ps k) (delta_in qs k) (shows_in a k) (shows_in b k) (shows_in c k) (h.each k within)
        (g.each k middle))
        (meet (delta_in qs k) (delta_in rs k) (shows_in b k) (shows_in c k) (shows_in d k) (g.each k middle)
        (f.each k third))
        ∙ sym (ap (composed (delta_in ps k)) (composed_in qs rs b c d k g f middle))
        ∙ sym (composed_in ps (composed_all qs rs) a b d k h (leads_on qs rs b c d g f) within)

-- ---- sections

-- commands that suit their lists do so after another one
pub suit_after : (limit : ℕ) (s : State) (c : Command) (cs : List Command) → AllSuit s cs
    → AllSuit (step limit s c).state cs
suit_after limit s c cs suit = all_suit_kept s (step limit s c).state cs (step_keeps limit s c) suit

pub after_sound : (limit : ℕ) (s : State) (cs : List Command) → IsSound s → AllSuit s cs
    → IsSound (state_after limit s cs)
after_sound limit s [] h suit = h
after_sound limit s (c ∷ cs) h suit =
    after_sound limit (step limit s c).state cs (step_sound limit s c h suit.0.attaches suit.0.takes) (suit_after limit s c cs suit.1)

-- deltas that lead to a state, and then those of commands
pub after_leads : (limit : ℕ) (s : State) (sofar : Deltas) (start : Table) (cs : List Command)
    → IsSound s → AllSuit s cs → Lead sofar start (table_of s)
    → Lead (deltas_after limit s sofar cs) start (table_of (state_after limit s cs))
after_leads limit s sofar start [] h suit lead = lead
after_leads limit s sofar start (c ∷ cs) h suit lead =
    after_leads limit (step limit s c).state _ start cs (step_sound limit s c h suit.0.attaches suit.0.takes)
    (suit_after limit s c cs suit.1)
    (leads_on sofar (step limit s c).deltas start (table_of s) (table_of (step limit s c).state) lead
    (step_leads limit s c h suit.0.attaches suit.0.takes))

-- each delta of a section leads from what its list showed before it to what it shows after it
pub section_leads : (limit : ℕ) (s : State) (cs : List Command) → IsSound s → AllSuit s cs
    → Lead (section_deltas limit s cs) (table_of s) (table_of (state_after limit s cs))
section_leads limit s cs h suit =
    after_leads limit s (unchanged (table_of s)) (table_of s) cs h suit (unchanged_leads (table_of s))

-- one for each list
pub length-section_deltas : (limit : ℕ) (s : State) (cs : List Command) → IsSound s → AllSuit s cs
    → length (section_deltas limit s cs) ≡ length s
length-section_deltas limit s cs h suit = (section_leads limit s cs h suit).long ∙ length-table_of s

-- deltas and then those of commands are the deltas composed with the commands' section
pub deltas_after_is : (limit : ℕ) (s : State) (sofar : Deltas) (start : Table) (cs : List Command)
    → IsSound s → AllSuit s cs → Lead sofar start (table_of s)
    → deltas_after limit s sofar cs ≡ composed_all sofar (section_deltas limit s cs)
deltas_after_is limit s sofar start [] h suit lead = sym (then_unchanged sofar start (table_of s) lead)
deltas_after_is limit s sofar start (c ∷ cs) h suit lead =
    let next : State = (step limit s c).state in
    let one : Deltas = (step limit s c).deltas in
    let here : Lead one (table_of s) (table_of next) = step_leads limit s c h suit.0.attaches suit.0.takes in
    let now : IsSound next = step_sound limit s c h suit.0.attaches suit.0.takes in
    let then : AllSuit next cs = suit_after limit s c cs suit.1 in
    let rest : Deltas = section_deltas limit next cs in
    let first : composed_all (unchanged (table_of s)) one ≡ one =
    unchanged_then one (table_of s) (table_of next) here in
    deltas_after_is limit next (composed_all sofar one) start cs now then
    (leads_on sofar one start (table_of s) (table_of next) lead here)
    ∙ composed_all_assoc sofar one rest start (table_of s) (table_of next) (table_of (state_after limit next cs))
    lead here (section_leads limit next cs now then)
    ∙ sym (ap (composed_all sofar) (ap (λ ds. deltas_after limit next ds cs) first
    ∙ deltas_after_is limit next one (table_of s) cs now then here))
