-- What is told of a list is put under its number.
use Rattle.std.proofs.Common.{◌≡◌, ◌≢◌, ◌∙◌, ℕ, zero, suc, ◌<◌, ◌≤◌, Bool, true, false, ltb, List, [], ◌∷◌, length, refl, ap, sym, subst, arith, inl, inr}
use Rattle.std.specs.Prelude.{Option, Some, None, slice_set, slice_index, slice_index_or}
use Rattle.std.proofs.lemmas.Bool.{ltb-true, ltb-false}
use Rattle.spec_states.specs.Piece.{old_len}
use Rattle.spec_states.specs.Delta.{no_change}
use Rattle.spec_states.specs.Leads.{IsDelta}
use Rattle.spec_states.proofs.DeltaLeads.{length_from}
use Rattle.spec_states.proofs.Lengths.{old_len-identity}
use Rattle.gl_source.specs.Model.{DeltaModel}
use Rattle.spec_states.specs.State.{State}
use Rattle.spec_states.specs.Shown.{shown}
use Rattle.spec_states.specs.Wave.{wave, wave_deltas, delta_in, Cause}
use Rattle.spec_states.proofs.Views.{length-table_of}
use Rattle.gl_graph.specs.declared.node.Node.{Node}
use Rattle.gl_graph.specs.declared.keeps.KeepsUndo.{KeepsUndo}
use Rattle.gl_graph.specs.Nodes.{state_of}
use Rattle.gl_graph.specs.declared.rollback.Rollback.{Rollback}
use Rattle.gl_graph.specs.Waves.{IsTold as IsToldOf}
use Rattle.gl_graph.specs.Spread.{AreToldTo, IsPut}
use Rattle.gl_graph.proofs.Identities.{none_same}
use Rattle.gl_graph.proofs.Sets.{set_long}
use Rattle.gl_graph.proofs.Inputs.{long_state}
use Rattle.gl_graph.proofs.WholeWaves.{graph_leads}
use Rattle.gl_graph.proofs.Next.{IsTurn, begun_later, the_next}
use Rattle.gl_graph.proofs.Turns.{IsStill, IsTold}

put_here : (told : List (Option DeltaModel)) (k : ℕ) (v : Option DeltaModel) → k < length told → slice_index_or (slice_set told k v) k None ≡ v
put_here [] k v h = absurd (omega (arith, h))
put_here (x ∷ told) zero v h = refl
put_here (x ∷ told) (suc k) v h = put_here told k v (omega (arith, h))

put_there : (told : List (Option DeltaModel)) (k list : ℕ) (v : Option DeltaModel) → list ≢ k → slice_index_or (slice_set told k v) list None ≡ slice_index_or told list None
put_there [] k list v h = refl
put_there (x ∷ told) zero zero v h = absurd (h refl)
put_there (x ∷ told) zero (suc list) v h = refl
put_there (x ∷ told) (suc k) zero v h = refl
put_there (x ∷ told) (suc k) (suc list) v h = put_there told k list v (λ e. h (ap suc e))

-- nothing is told of a list that doesn't change
pub told_still : {limit : ℕ} {old : List Node} {positions : List ℕ} {cause : Cause} {rollback : Option Rollback} {q : ℕ} {nodes : List Node} {told : List (Option DeltaModel)} {was : Node}
    → IsTurn limit old positions cause rollback q nodes told was → IsStill old positions cause was → AreToldTo (state_of old positions) positions cause rollback (suc q) told
told_still {old = old} {positions = positions} {cause = cause} {rollback = rollback} {q = q} {told = told} {was = was} t still = record {
  long = t.to.long;
  each = λ list within low. by_each list within low (ltb (slice_index positions list) q) refl;
  same = λ list within low none. by_same list within low none (ltb (slice_index positions list) q) refl;
  others = λ list within high. t.to.others list within (omega (arith, high));
  quiet = λ early. t.to.quiet (λ h. early (begun_later positions rollback cause q h));
}
  where
    s : State
    s = state_of old positions

    is_next : (list : ℕ) → list < length positions → slice_index positions list < suc q → q ≤ slice_index positions list → list ≡ was.list
    is_next list within low high = the_next t list within (omega (arith, low, high))

    by_each : (list : ℕ) → list < length positions → slice_index positions list < suc q → (t : Bool) → ltb (slice_index positions list) q ≡ t
        → IsToldOf (length (shown s list)) (delta_in (wave_deltas s cause) list) (slice_index_or told list None)
    by_each list within low true e = t.to.each list within (ltb-true (slice_index positions list) q e)
    by_each list within low false e =
        let high : q ≤ slice_index positions list = ltb-false (slice_index positions list) q e in
        let none : slice_index_or told list None ≡ None = t.to.others list within high in
        subst (IsToldOf (length (shown s list)) (delta_in (wave_deltas s cause) list)) (sym none)
        (subst (λ l. delta_in (wave_deltas s cause) l ≡ no_change (length (shown s l))) (sym (is_next list within low high)) still.told)

    by_same : (list : ℕ) → list < length positions → slice_index positions list < suc q → slice_index_or told list None ≡ None → (t : Bool) → ltb (slice_index positions list) q ≡ t
        → shown (wave s cause) list ≡ shown s list
    by_same list within low none true e = t.to.same list within (ltb-true (slice_index positions list) q e) none
    by_same list within low none false e =
        subst (λ l. shown (wave s cause) l ≡ shown s l) (sym (is_next list within low (ltb-false (slice_index positions list) q e))) still.same

-- its delta is put there unless it is the no_change
pub told_put : {limit : ℕ} {old : List Node} {positions : List ℕ} {cause : Cause} {rollback : Option Rollback} {q : ℕ} {nodes : List Node} {told : List (Option DeltaModel)} {was now : Node} {d : DeltaModel} {undo : KeepsUndo} (after : List (Option DeltaModel))
    → IsTurn limit old positions cause rollback q nodes told was → IsTold old positions cause rollback q nodes was now d undo → IsPut was.list d told after → AreToldTo (state_of old positions) positions cause rollback (suc q) after
told_put {limit = limit} {old = old} {positions = positions} {cause = cause} {rollback = rollback} {q = q} {told = told} {was = was} {d = d} after t on put = elim put [
  | inl h ↦
      let pieces : delta_in (wave_deltas s cause) l ≡ no_change (length (shown s l)) =
      sym on.told ∙ (h.0 ∙ ap no_change (ap old_len on.told ∙ sym (length_from (delta_in (wave_deltas s cause) l) (shown s l) lead.starts))) in
      let stays : shown (wave s cause) l ≡ shown s l = none_same (length (shown s l)) (shown s l) (shown (wave s cause) l) (subst (λ ps. IsDelta ps (shown s l) (shown (wave s cause) l)) pieces lead) in
      subst (AreToldTo s positions cause rollback (suc q)) (sym h.1) (told_still t (record { told = pieces; same = stays }))
  | inr h ↦ subst (AreToldTo s positions cause rollback (suc q)) (sym h.1) (record {
    long = set_long told l (Some d) ∙ t.to.long;
    each = λ list within low. by_each h.0 list within low (ltb (slice_index positions list) q) refl;
    same = λ list within low none. by_same list within low none (ltb (slice_index positions list) q) refl;
    others = λ list within high. put_there told l list (Some d) (λ e. apart list e (omega (arith, high))) ∙ t.to.others list within (omega (arith, high));
    quiet = λ early. absurd (early on.by.late);
  })
]
  where
    s : State
    s = state_of old positions

    l : ℕ
    l = was.list

    lead : IsDelta (delta_in (wave_deltas s cause) l) (shown s l) (shown (wave s cause) l)
    lead = (graph_leads limit old positions cause t.begun.graph t.begun.suits on.by.none).each l (omega (arith, t.next.within, length-table_of s))

    here : slice_index_or (slice_set told l (Some d)) l None ≡ Some d
    here = put_here told l (Some d) (omega (arith, t.next.within, t.to.long, long_state old positions))

    apart : (list : ℕ) → list ≡ l → slice_index positions list ≢ q → ⊥
    apart list e other = other (ap (slice_index positions) e ∙ t.next.turn.placed)

    is_next : (list : ℕ) → list < length positions → slice_index positions list < suc q → q ≤ slice_index positions list → list ≡ l
    is_next list within low high = the_next t list within (omega (arith, low, high))

    changes : d.pieces ≢ no_change (old_len d.pieces) → d.pieces ≢ no_change (length (shown s l))
    changes other e = other (e ∙ ap no_change (sym (old_len-identity (length (shown s l))) ∙ ap old_len (sym e)))

    by_each : d.pieces ≢ no_change (old_len d.pieces) → (list : ℕ) → list < length positions → slice_index positions list < suc q → (t : Bool) → ltb (slice_index positions list) q ≡ t
        → IsToldOf (length (shown s list)) (delta_in (wave_deltas s cause) list) (slice_index_or (slice_set told l (Some d)) list None)
    by_each other list within low true e =
        let less : slice_index positions list < q = ltb-true (slice_index positions list) q e in
        subst (IsToldOf (length (shown s list)) (delta_in (wave_deltas s cause) list)) (sym (put_there told l list (Some d) (λ f. apart list f (λ g. omega (arith, less, g)))))
        (t.to.each list within less)
    by_each other list within low false e =
        subst (λ k. IsToldOf (length (shown s k)) (delta_in (wave_deltas s cause) k) (slice_index_or (slice_set told l (Some d)) k None)) (sym (is_next list within low (ltb-false (slice_index positions list) q e)))
        (subst (IsToldOf (length (shown s l)) (delta_in (wave_deltas s cause) l)) (sym here) (on.told, changes other))

    nothing : slice_index_or (slice_set told l (Some d)) l None ≡ None → ⊥
    nothing e = let both : Some d ≡ None = sym here ∙ e in absurd cc

    by_same : (list : ℕ) → list < length positions → slice_index positions list < suc q → slice_index_or (slice_set told l (Some d)) list None ≡ None → (t : Bool) → ltb (slice_index positions list) q ≡ t
        → shown (wave s cause) list ≡ shown s list
    by_same list within low none true e =
        let less : slice_index positions list < q = ltb-true (slice_index positions list) q e in
        t.to.same list within less (sym (put_there told l list (Some d) (λ f. apart list f (λ g. omega (arith, less, g)))) ∙ none)
    by_same list within low none false e =
        absurd (nothing (subst (λ k. slice_index_or (slice_set told l (Some d)) k None ≡ None) (is_next list within low (ltb-false (slice_index positions list) q e)) none))
