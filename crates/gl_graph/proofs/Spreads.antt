-- A command that has come as far as a place comes one place further.
use Rattle.std.proofs.Common.{◌≡◌, ◌≢◌, ◌∙◌, ℕ, suc, ◌<◌, ◌≤◌, Bool, true, false, ltb, List, length, take, refl, ap, sym, subst, arith, eqb}
use Rattle.std.specs.Prelude.{Option, Some, slice_get, slice_index}
use Rattle.std.specs.List.{Contains}
use Rattle.std.proofs.lemmas.Bool.{ltb-true, ltb-false, eqb-true, eqb-false}
use Rattle.gl_source.specs.Model.{DeltaModel}
use Rattle.spec_states.specs.State.{State, own_at}
use Rattle.spec_states.specs.Shown.{shown_of, shown}
use Rattle.spec_states.specs.Wave.{wave, Cause}
use Rattle.spec_states.proofs.Views.{Inward, shown_local, shown_in, wave_ordered}
use Rattle.gl_graph.specs.declared.keeps.Keeps.{Keeps}
use Rattle.gl_graph.specs.declared.node.Node.{Node}
use Rattle.gl_graph.specs.declared.rollback.Rollback.{Rollback}
use Rattle.gl_graph.specs.Nodes.{own_of, numbers, state_of, shown_by, StandsFor, AreInTurn, AreSettled}
use Rattle.gl_graph.specs.Graph.{limit_of, IsLimit, IsLimited}
use Rattle.gl_graph.specs.Spread.{AreInverse, IsSetAt}
use Rattle.gl_graph.proofs.Inputs.{among_inward, long_state}
use Rattle.gl_graph.proofs.Prefixes.{settled_more}
use Rattle.gl_graph.proofs.WholeWaves.{graph_inward}
use Rattle.gl_graph.proofs.Sets.{set_here, set_there, set_prefix, set_numbers, set_order}
use Rattle.gl_graph.proofs.Next.{IsTurn, long_wave, the_next}
use Rattle.gl_graph.proofs.Turns.{IsOn}

-- its members are still among what it depends on
now_inward : {limit : ℕ} {old : List Node} {positions : List ℕ} {cause : Cause} {rollback : Option Rollback} {q : ℕ} {nodes : List Node} {told : List (Option DeltaModel)} {was now : Node}
    → IsTurn limit old positions cause rollback q nodes told was → IsOn old positions cause rollback q nodes was now → Inward (own_of now.keeps)
now_inward {limit = limit} {old = old} {positions = positions} {cause = cause} {was = was} t on = subst Inward (sym on.own) (graph_inward limit old positions cause t.begun.graph t.begun.suits was.list)

-- what it shows
pub on_shows : {limit : ℕ} {old : List Node} {positions : List ℕ} {cause : Cause} {rollback : Option Rollback} {q : ℕ} {nodes : List Node} {told : List (Option DeltaModel)} {was now : Node}
    → IsTurn limit old positions cause rollback q nodes told was → IsOn old positions cause rollback q nodes was now
    → shown_of (own_of now.keeps) (shown_by (take q nodes) positions) ≡ shown (wave (state_of old positions) cause) was.list
on_shows {limit = limit} {old = old} {positions = positions} {cause = cause} {q = q} {nodes = nodes} {was = was} {now = now} t on =
    let s : State = state_of old positions in
    let w : State = wave s cause in
    let after : was.list < length w = omega (arith, t.next.within, long_wave old positions cause, long_state old positions) in
    shown_local (own_of now.keeps) (now_inward t on) (shown_by (take q nodes) positions) (shown w) (λ i d. t.next.shows i (subst (λ is. Contains is i) on.inputs_are d))
    ∙ (ap (λ o. shown_of o (shown w)) on.own
    ∙ sym (shown_in w (wave_ordered s cause t.begun.graph.sound.ordered) (graph_inward limit old positions cause t.begun.graph t.begun.suits) was.list after))

limited_by : (limit : ℕ) (k m : Keeps) → limit_of m ≡ limit_of k → IsLimited limit k → IsLimited limit m
limited_by limit k m e h = subst (IsLimit limit) (sym e) h

-- the nodes one place further
pub inverse_more : {limit : ℕ} {old : List Node} {positions : List ℕ} {cause : Cause} {rollback : Option Rollback} {q : ℕ} {nodes : List Node} {told : List (Option DeltaModel)} {was now : Node} (others : List Node)
    → IsTurn limit old positions cause rollback q nodes told was → IsSetAt q nodes others was now → IsOn old positions cause rollback q nodes was now
    → length (shown_of (own_of now.keeps) (shown_by (take q nodes) positions)) ≤ limit → AreInverse limit old positions cause rollback (suc q) others
inverse_more {limit = limit} {old = old} {positions = positions} {cause = cause} {rollback = rollback} {q = q} {nodes = nodes} {told = told} {was = was} {now = now} others t set on short = record {
  numbers_are = ap numbers set.is ∙ (set_numbers nodes q was now set.there set.list ∙ t.are.numbers_are);
  dependency_order = dependency_order;
  settled = settled_more others positions q now dependency_order (subst (λ xs. AreSettled xs positions) (sym prefix) t.are.settled) here
      (subst (λ xs. StandsFor now.keeps (shown_by xs positions)) (sym prefix) on.stands)
      (subst (λ xs. length (shown_of (own_of now.keeps) (shown_by xs positions)) ≤ 2147483647) (sym prefix) (omega (arith, short, t.begun.graph.few)));
  own = λ p n low at. by_own p n low at (ltb p q) refl;
  rest = λ p high. there p (λ e. omega (arith, e, high)) ∙ t.are.rest p (omega (arith, high));
  limited = λ p n at. by_limited p n at (eqb p q) refl;
  few = λ list within low. by_few list within low (ltb (slice_index positions list) q) refl;
  inside = on.inside;
}
  where
    s : State
    s = state_of old positions

    w : State
    w = wave s cause

    prefix : take q others ≡ take q nodes
    prefix = ap (take q) set.is ∙ set_prefix nodes q now

    here : slice_get others q ≡ Some now
    here = ap (λ xs. slice_get xs q) set.is ∙ set_here nodes q was now set.there

    there : (p : ℕ) → p ≢ q → slice_get others p ≡ slice_get nodes p
    there p other = ap (λ xs. slice_get xs p) set.is ∙ set_there nodes q p now other

    dependency_order : AreInTurn others positions
    dependency_order = set_order nodes others positions q was now set on.inputs_are
        (among_inward now.keeps (now_inward t on)) t.are.dependency_order

    now_at : (p : ℕ) (n : Node) → p ≡ q → slice_get others p ≡ Some n → now ≡ n
    now_at p n e at = let both : Some now ≡ Some n = sym here ∙ (ap (slice_get others) (sym e) ∙ at) in cc

    by_own : (p : ℕ) (n : Node) → p < suc q → slice_get others p ≡ Some n → (t : Bool) → ltb p q ≡ t → own_of n.keeps ≡ own_at w n.list
    by_own p n low at true e =
        let less : p < q = ltb-true p q e in
        t.are.own p n less (sym (there p (λ f. omega (arith, f, less))) ∙ at)
    by_own p n low at false e =
        let high : q ≤ p = ltb-false p q e in
        subst (λ (m : Node). own_of m.keeps ≡ own_at w m.list) (now_at p n (omega (arith, low, high)) at) (on.own ∙ ap (own_at w) (sym set.list))

    by_limited : (p : ℕ) (n : Node) → slice_get others p ≡ Some n → (t : Bool) → eqb p q ≡ t → IsLimited limit n.keeps
    by_limited p n at true e =
        subst (λ (m : Node). IsLimited limit m.keeps) (now_at p n (eqb-true p q e) at) (limited_by limit was.keeps now.keeps on.limit (t.are.limited q was set.there))
    by_limited p n at false e = t.are.limited p n (sym (there p (eqb-false p q e)) ∙ at)

    by_few : (list : ℕ) → list < length positions → slice_index positions list < suc q → (t : Bool) → ltb (slice_index positions list) q ≡ t → length (shown w list) ≤ limit
    by_few list within low true e = t.are.few list within (ltb-true (slice_index positions list) q e)
    by_few list within low false e =
        let high : q ≤ slice_index positions list = ltb-false (slice_index positions list) q e in
        let is : list ≡ was.list = the_next t list within (omega (arith, low, high)) in
        subst (λ l. length (shown w l) ≤ limit) (sym is) (subst (λ xs. length xs ≤ limit) (on_shows t on) short)
