-- Where the elements of a sorted list stand.
use Rattle.std.proofs.Common.{◌≡◌, ◌<◌, ◌≤◌, ℕ, zero, suc, List, [], ◌∷◌, length, Some, None, refl, sym, ap, ◌∙◌, arith}
use Rattle.std.specs.List.{slice_get}
use Rattle.std.specs.Cmp.{IsTotalOrder}
use Rattle.std.proofs.lemmas.List.{length-map}
use Rattle.std.proofs.lemmas.Option.{slice_get_past}
use Rattle.spec_sorting.specs.Tree.{Tree}
use Rattle.spec_sorting.specs.Source.{element_at}
use Rattle.spec_sorting.specs.Arrangement.{Comparison, arrangement}
use Rattle.spec_sorting.specs.Sorted.{sorted_view}
use Rattle.spec_sorting.proofs.Arrangements.{arrangement_is}
use Rattle.gl_order.specs.Arranged.{Arranged, IsOrdered}
use Rattle.gl_order.proofs.Edits.{length-ordered}
use Rattle.gl_order.proofs.Links.{get-map}

pub element_here : (xs : List Tree) (i : ℕ) → i < length xs → slice_get xs i ≡ Some (element_at xs i)
element_here [] i less = absurd (omega (arith, less))
element_here (x ∷ xs) zero less = refl
element_here (x ∷ xs) (suc i) less = element_here xs i (omega (arith, less))

module _ (compare : Comparison) (o : IsTotalOrder compare) (xs : List Tree) (a : Arranged) (ordered : IsOrdered compare xs a) where
  at_arrangement : (p i : ℕ) → slice_get a.places p ≡ Some i → slice_get (arrangement compare xs) p ≡ Some i
  at_arrangement p i at = ap (λ is. slice_get is p) (sym ordered.places) ∙ at

  pub shown_at : (p i : ℕ) → slice_get a.places p ≡ Some i → slice_get xs i ≡ slice_get (sorted_view compare xs) p
  shown_at p i at =
      let here = at_arrangement p i at in
      element_here xs i ((arrangement_is compare o xs).within p i here) ∙ sym (get-map (element_at xs) (arrangement compare xs) p i here)

  pub none_shown : (p : ℕ) → length a.places ≤ p → None ≡ slice_get (sorted_view compare xs) p
  none_shown p past =
      sym (slice_get_past (sorted_view compare xs) p (omega (arith, past, length-ordered compare xs a o ordered, length-map (arrangement compare xs) (element_at xs), (arrangement_is compare o xs).long)))

  pub length-shown : length a.places ≡ length (sorted_view compare xs)
  length-shown = ap length ordered.places ∙ sym (length-map (arrangement compare xs) (element_at xs))
