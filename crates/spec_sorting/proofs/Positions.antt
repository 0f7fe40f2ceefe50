-- Where the elements of a list stand in its sorted order.
use Rattle.std.proofs.Common.{◌≡◌, ◌∙◌, ℕ, ◌<◌, true, false, List, length, ap, sym, arith, inl, inr}
use Rattle.std.specs.Prelude.{Some, slice_get, nat_lt}
use Rattle.std.specs.Cmp.{IsTotalOrder}
use Rattle.std.proofs.lemmas.Bool.{cases_order, cases_Bool, lt-ltb, le-ltb, false≢true}
use Rattle.std.proofs.lemmas.Option.{slice_get_within, same_Some}
use Rattle.spec_value.specs.Tree.{Tree}
use Rattle.spec_views.specs.Arrangement.{Comparison, is_before, arrangement, IsArrangement}
use Rattle.spec_views.proofs.SortedPositions.{all_below}
use Rattle.spec_views.proofs.Indices.{index_found, index_placed, get_within}
use Rattle.spec_views.proofs.Arrangements.{arrangement_is, distinct_arrangement, within_arrangement, before_trans, before_never}
use Rattle.spec_sorting.specs.Moves.{sorted_position}

module _ (compare : Comparison) (o : IsTotalOrder compare) (xs : List Tree) where
  pub position_at : (i : ℕ) → i < length xs → slice_get (arrangement compare xs) (sorted_position compare xs i) ≡ Some i
  position_at i less =
      let js : List ℕ = arrangement compare xs in
      let is : IsArrangement compare xs js = arrangement_is compare o xs in
      index_found i js (all_below (length xs) js is.long (distinct_arrangement compare o xs js is) (within_arrangement compare o xs js is) i less)

  pub position_below : (i : ℕ) → i < length xs → sorted_position compare xs i < length xs
  position_below i less =
      omega (arith, slice_get_within (arrangement compare xs) (sorted_position compare xs i) i (position_at i less), (arrangement_is compare o xs).long)

  pub position_once : (i j : ℕ) → i < length xs → j < length xs → sorted_position compare xs i ≡ sorted_position compare xs j → i ≡ j
  position_once i j i_less j_less same =
      same_Some i j (sym (position_at i i_less) ∙ (ap (slice_get (arrangement compare xs)) same ∙ position_at j j_less))

  -- an element stands before another one exactly where its sorted place is less
  pub before_position : (i j : ℕ) → i < length xs → j < length xs
      → is_before compare xs i j ≡ nat_lt (sorted_position compare xs i) (sorted_position compare xs j)
  before_position i j i_less j_less =
      let p : ℕ = sorted_position compare xs i in
      let q : ℕ = sorted_position compare xs j in
      let sorted = (arrangement_is compare o xs).sorted in
      elim (cases_order p q) [
        | inl same ↦
            ap (λ k. is_before compare xs i k) (sym (position_once i j i_less j_less same))
            ∙ (before_never compare o xs i ∙ sym (le-ltb p q (omega (arith, same))))
        | inr (inl less) ↦ sorted p q i j less (position_at i i_less) (position_at j j_less) ∙ sym (lt-ltb p q less)
        | inr (inr more) ↦
            not_before (sorted q p j i more (position_at j j_less) (position_at i i_less)) ∙ sym (le-ltb p q (omega (arith, more)))
      ]
    where
      not_before : is_before compare xs j i ≡ true → is_before compare xs i j ≡ false
      not_before back = elim (cases_Bool (is_before compare xs i j)) [
        | inl there ↦ absurd (false≢true (sym (before_never compare o xs i) ∙ before_trans compare o xs i j i there back))
        | inr none ↦ none
      ]

  -- at each place there is one element
  pub one_at : (k : ℕ) → k < length xs
      → (j : ℕ) × (j < length xs) × (sorted_position compare xs j ≡ k) × ((i : ℕ) → i < length xs → sorted_position compare xs i ≡ k → i ≡ j)
  one_at k less =
      let js : List ℕ = arrangement compare xs in
      let is : IsArrangement compare xs js = arrangement_is compare o xs in
      let at = get_within js k (omega (arith, less, is.long)) in
      let placed : sorted_position compare xs at.0 ≡ k = index_placed js k at.0 (distinct_arrangement compare o xs js is) at.1 in
      let low : at.0 < length xs = is.within k at.0 at.1 in
      (at.0, low, placed, λ i i_less e. position_once i at.0 i_less low (e ∙ sym placed))
