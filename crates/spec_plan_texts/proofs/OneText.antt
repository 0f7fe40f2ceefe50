-- A text spells at most one plan, has at most one first fault, spells at most one cycle, and does no two of these.
use Rattle.std.proofs.Common.{◌≡◌, ◌∙◌, ℕ, List, [], ◌∷◌, codes, Some, None, refl, sym, ap, subst, inl, inr}
use Rattle.std.proofs.lemmas.Option.{same_Some, none-some}
use Rattle.spec_order.specs.Cycle.{HasCycle}
use Rattle.spec_order.proofs.Walks.{IsFirstCycle-unique, HasCycle-first}
use Rattle.gl_lines.specs.declared.line.NumberedLine.{NumberedLine}
use Rattle.spec_plans.specs.declared.fault.FaultAt.{FaultAt}
use Rattle.spec_plans.specs.NameFaults.{first_fault_at}
use Rattle.spec_plans.specs.Making.{plan_of}
use Rattle.spec_plans.specs.Plan.{Plan, list_edges, listener_edges}
use Rattle.spec_plans.specs.Cycles.{names_of, NamesCycle, IsAcyclic, IsCycleOf}
use Rattle.spec_plan_texts.specs.Reading.{Outcome, all_read, stopped, outside, Comes}
use Rattle.spec_plan_texts.specs.Text.{ReadsTo, SpellsPlan, FirstFault, no_utf8, no_header, in_line, in_names, SpellsCycle}
use Rattle.spec_plan_texts.proofs.One.{comes_one}

lines_after : (head : List ℕ) (raws others : List (List ℕ)) → head ∷ raws ≡ head ∷ others → raws ≡ others
lines_after head raws others e = cc

-- a text's lines come to one outcome
pub one_reading : (bytes : List ℕ) (a b : Outcome) → ReadsTo bytes a → ReadsTo bytes b → a ≡ b
one_reading bytes a b h k =
    let same : k.1 ≡ h.1 = lines_after (codes "glaze 1") k.1 h.1 (sym k.2 ∙ h.2) in
    comes_one a b h.3 (subst (λ raws. Comes outside [] 2 raws b) same k.3)

same_lines : (xs ys : List NumberedLine) → all_read xs ≡ all_read ys → xs ≡ ys
same_lines xs ys e = cc

same_stop : (f g : FaultAt) → stopped f ≡ stopped g → f ≡ g
same_stop f g e = cc

read_or_stopped : (xs : List NumberedLine) (f : FaultAt) → all_read xs ≡ stopped f → ⊥
read_or_stopped xs f e = absurd cc

one_lines : (bytes : List ℕ) (xs ys : List NumberedLine) → ReadsTo bytes (all_read xs) → ReadsTo bytes (all_read ys)
    → xs ≡ ys
one_lines bytes xs ys h k = same_lines xs ys (one_reading bytes (all_read xs) (all_read ys) h k)

-- where all lines were read and no name is at fault, a text has no fault
sound_faultless : (bytes : List ℕ) (lines : List NumberedLine) (f : FaultAt) → ReadsTo bytes (all_read lines)
    → first_fault_at lines ≡ None → FirstFault bytes f → ⊥
sound_faultless bytes lines f r s (no_utf8 none) = none r.0
sound_faultless bytes lines f r s (no_header t none) = none r.1 r.2
sound_faultless bytes lines f r s (in_line stop) =
    read_or_stopped lines f (one_reading bytes (all_read lines) (stopped f) r stop)
sound_faultless bytes lines f r s (in_names {lines = others} q e) =
    none-some f (sym s ∙ ap first_fault_at (one_lines bytes lines others r q) ∙ e)

-- the fault of names that is first in a text's lines
one_of_names : (bytes : List ℕ) (xs ys : List NumberedLine) (f g : FaultAt) → ReadsTo bytes (all_read xs)
    → first_fault_at xs ≡ Some f
    → ReadsTo bytes (all_read ys) → first_fault_at ys ≡ Some g → f ≡ g
one_of_names bytes xs ys f g h e k d = same_Some f g (sym e ∙ ap first_fault_at (one_lines bytes xs ys h k) ∙ d)

pub one_fault : (bytes : List ℕ) (f g : FaultAt) → FirstFault bytes f → FirstFault bytes g → f ≡ g
one_fault bytes f g (no_utf8 none) (no_utf8 other) = refl
one_fault bytes f g (no_utf8 none) (no_header t other) = absurd (none t)
one_fault bytes f g (no_utf8 none) (in_line r) = absurd (none r.0)
one_fault bytes f g (no_utf8 none) (in_names r e) = absurd (none r.0)
one_fault bytes f g (no_header t none) (no_utf8 other) = absurd (other t)
one_fault bytes f g (no_header t none) (no_header u other) = refl
one_fault bytes f g (no_header t none) (in_line r) = absurd (none r.1 r.2)
one_fault bytes f g (no_header t none) (in_names r e) = absurd (none r.1 r.2)
one_fault bytes f g (in_line r) (no_utf8 other) = absurd (other r.0)
one_fault bytes f g (in_line r) (no_header t other) = absurd (other r.1 r.2)
one_fault bytes f g (in_line r) (in_line q) = same_stop f g (one_reading bytes (stopped f) (stopped g) r q)
one_fault bytes f g (in_line r) (in_names {lines = lines} q e) =
    absurd (read_or_stopped lines f (one_reading bytes (all_read lines) (stopped f) q r))
one_fault bytes f g (in_names r e) (no_utf8 other) = absurd (other r.0)
one_fault bytes f g (in_names r e) (no_header t other) = absurd (other r.1 r.2)
one_fault bytes f g (in_names {lines = lines} r e) (in_line q) =
    absurd (read_or_stopped lines g (one_reading bytes (all_read lines) (stopped g) r q))
one_fault bytes f g (in_names {lines = xs} r e) (in_names {lines = ys} q d) = one_of_names bytes xs ys f g r e q d

one_named : (edges : List (ℕ × ℕ)) (all xs ys : List (List ℕ)) → NamesCycle edges all xs → NamesCycle edges all ys
    → xs ≡ ys
one_named edges all xs ys h k = h.2 ∙ ap (names_of all) (IsFirstCycle-unique edges h.0 k.0 h.1 k.1) ∙ sym k.2

named_has : (edges : List (ℕ × ℕ)) (all xs : List (List ℕ)) → NamesCycle edges all xs → HasCycle edges
named_has edges all xs h = HasCycle-first edges h.0 h.1

one_cycle_of : (p : Plan) (xs ys : List (List ℕ)) → IsCycleOf p xs → IsCycleOf p ys → xs ≡ ys
one_cycle_of p xs ys (inl h) (inl k) = one_named (list_edges p) _ xs ys h k
one_cycle_of p xs ys (inl h) (inr k) = absurd (k.0 (named_has (list_edges p) _ xs h))
one_cycle_of p xs ys (inr h) (inl k) = absurd (h.0 (named_has (list_edges p) _ ys k))
one_cycle_of p xs ys (inr h) (inr k) = one_named (listener_edges p) _ xs ys h.1 k.1

acyclic_or_cycle : (p : Plan) (names : List (List ℕ)) → IsAcyclic p → IsCycleOf p names → ⊥
acyclic_or_cycle p names h (inl k) = h.lists (named_has (list_edges p) _ names k)
acyclic_or_cycle p names h (inr k) = h.listeners (named_has (listener_edges p) _ names k.1)

pub one_plan : (bytes : List ℕ) (p q : Plan) → SpellsPlan bytes p → SpellsPlan bytes q → p ≡ q
one_plan bytes p q h k = h.makes ∙ ap plan_of (one_lines bytes h.lines k.lines h.read k.read) ∙ sym k.makes

pub one_cycle : (bytes : List ℕ) (xs ys : List (List ℕ)) → SpellsCycle bytes xs → SpellsCycle bytes ys → xs ≡ ys
one_cycle bytes xs ys h k =
    one_cycle_of (plan_of h.lines) xs ys h.cycle
    (subst (λ lines. IsCycleOf (plan_of lines) ys) (one_lines bytes k.lines h.lines k.read h.read) k.cycle)

pub plan_or_fault : (bytes : List ℕ) (p : Plan) (f : FaultAt) → SpellsPlan bytes p → FirstFault bytes f → ⊥
plan_or_fault bytes p f h k = sound_faultless bytes h.lines f h.read h.sound k

pub cycle_or_fault : (bytes : List ℕ) (names : List (List ℕ)) (f : FaultAt) → SpellsCycle bytes names
    → FirstFault bytes f → ⊥
cycle_or_fault bytes names f h k = sound_faultless bytes h.lines f h.read h.sound k

pub plan_or_cycle : (bytes : List ℕ) (p : Plan) (names : List (List ℕ)) → SpellsPlan bytes p → SpellsCycle bytes names
    → ⊥
plan_or_cycle bytes p names h k =
    acyclic_or_cycle p names h.acyclic
    (subst (λ (q : Plan). IsCycleOf q names) (ap plan_of (one_lines bytes k.lines h.lines k.read h.read) ∙ sym h.makes)
    k.cycle)
