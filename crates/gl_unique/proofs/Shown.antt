-- Where the elements of a unique list stand.
use Rattle.std.proofs.Common.{◌≡◌, ◌∙◌, ◌<◌, ℕ, pos, List, length, refl, ap, sym, arith}
use Rattle.std.specs.Prelude.{Option, Some, None, slice_get, option_map, unwrap_or}
use Rattle.std.specs.Cmp.{IsTotalOrder}
use Rattle.std.proofs.lemmas.List.{length-map}
use Rattle.std.proofs.lemmas.Option.{slice_get-map, slice_get_within}
use Rattle.spec_sorting.specs.Tree.{Tree, num}
use Rattle.spec_sorting.specs.Source.{element_at}
use Rattle.spec_sorting.specs.Arrangement.{Comparison}
use Rattle.spec_classes.specs.Classes.{Class, first_of, classes}
use Rattle.spec_classes.specs.Unique.{shown_member, unique_view}
use Rattle.gl_classes.proofs.BothSides.{each_at}
use Rattle.gl_classes.proofs.TouchedLists.{get_here}
use Rattle.gl_unique.proofs.Readings.{first_within}

element_here : (xs : List Tree) (i : ℕ) → i < length xs → slice_get xs i ≡ Some (element_at xs i)
element_here xs i less = let u = get_here xs i less in u.1 ∙ ap Some (sym (ap (λ t. unwrap_or t (num (pos 0))) u.1))

pub value_here : (xs : List Tree) (i : ℕ) (v : Tree) → slice_get xs i ≡ Some v → v ≡ element_at xs i
value_here xs i v at = sym (ap (λ t. unwrap_or t (num (pos 0))) at)

module _ (compare : Comparison) (o : IsTotalOrder compare) (xs : List Tree) (place : ℕ) where
  -- the first member of a class is shown
  pub record IsShown (i : ℕ) : Type 0 where
    pub low : place < length (unique_view compare xs)
    pub within : i < length xs
    pub same : slice_get xs i ≡ slice_get (unique_view compare xs) place

  pub is_shown : (i : ℕ) → Some i ≡ option_map first_of (slice_get (classes compare xs) place) → IsShown i
  is_shown i first = by (slice_get (classes compare xs) place) refl
    where
      some_same : (a b : ℕ) → Some a ≡ Some b → a ≡ b
      some_same a b e = cc

      none_some : Some i ≡ None → ⊥
      none_some e = absurd cc

      by : (t : Option Class) → slice_get (classes compare xs) place ≡ t → IsShown i
      by None at = absurd (none_some (first ∙ ap (option_map first_of) at))
      by (Some c) at =
          let is : i ≡ first_of c = some_same i (first_of c) (first ∙ ap (option_map first_of) at) in
          let less : first_of c < length xs = each_at (λ c. first_of c < length xs) (classes compare xs) place c (first_within compare o xs) at in
          record {
            low = let low = slice_get_within (classes compare xs) place c at in omega (arith, low, length-map (classes compare xs) (shown_member xs));
            within = omega (arith, is, less);
            same = ap (slice_get xs) is ∙ (element_here xs (first_of c) less
                ∙ sym (slice_get-map (shown_member xs) (classes compare xs) place ∙ ap (option_map (shown_member xs)) at));
          }

  -- where there is no class no element is
  pub none_shown : None ≡ option_map first_of (slice_get (classes compare xs) place) → None ≡ slice_get (unique_view compare xs) place
  none_shown none = by (slice_get (classes compare xs) place) refl
    where
      none_some : (c : Class) → None ≡ Some (first_of c) → ⊥
      none_some c e = absurd cc

      by : (t : Option Class) → slice_get (classes compare xs) place ≡ t → None ≡ slice_get (unique_view compare xs) place
      by None at = sym (slice_get-map (shown_member xs) (classes compare xs) place ∙ ap (option_map (shown_member xs)) at)
      by (Some c) at = absurd (none_some c (none ∙ ap (option_map first_of) at))

  pub none_low : None ≡ option_map first_of (slice_get (classes compare xs) place) → place < length (unique_view compare xs) → ⊥
  none_low none less =
      let u = get_here (unique_view compare xs) place less in
      none_some u.0 (none_shown none ∙ u.1)
    where
      none_some : (v : Tree) → None ≡ Some v → ⊥
      none_some v e = absurd cc
