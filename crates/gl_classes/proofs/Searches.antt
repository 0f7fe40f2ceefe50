-- The search for the touched class of a key, and its bound.
use Rattle.std.proofs.Common.{◌≡◌, ◌≢◌, ◌∙◌, ℕ, zero, suc, ◌+◌, ◌-◌, ◌*◌, ◌/◌, ◌^◌, ◌<◌, ◌≤◌, List, ap, sym, arith, inl, inr}
use Rattle.std.specs.Prelude.{Option, Some, None, slice_get}
use Rattle.std.specs.Cmp.{IsTotalOrder}
use Rattle.std.specs.Ordering.{ordering_reverse}
use Rattle.std.specs.declared.cmp.Ordering.{Ordering}
use Rattle.std.specs.declared.cmp.Ordering.TheVariants.{Less, Equal, Greater}
use Rattle.std.proofs.lemmas.Bool.{cases_order}
use Rattle.std.proofs.Math.Nat.{pow-suc}
use Rattle.spec_sorting.specs.Tree.{Tree}
use Rattle.spec_sorting.specs.Delta.{Delta}
use Rattle.spec_sorting.specs.Source.{element_at}
use Rattle.spec_sorting.specs.Arrangement.{Comparison}
use Rattle.gl_classes.specs.declared.touched.Touched.{Touched}
use Rattle.gl_classes.specs.Finding.{AreOlds, IsMet}

not_equal : (r s : Ordering) → r ≡ s → s ≢ Equal → r ≢ Equal
not_equal r s e ne f = ne (sym e ∙ f)

less_other : Less ≢ Equal
less_other e = absurd cc

greater_other : Greater ≢ Equal
greater_other e = absurd cc

some_same : {X : Type 0} (x y : X) → Some x ≡ Some y → x ≡ y
some_same x y e = cc

module _ (compare : Comparison) (o : IsTotalOrder compare) (xs ys : List Tree) (d : Delta) (olds : List Touched) (are : AreOlds compare xs d olds) (new : ℕ) where
  abbrev With : Touched → Ordering
  With t = compare (element_at xs t.source) (element_at ys new)

  pub none_between : (low high : ℕ) → high ≤ low → IsMet compare xs ys olds low high new None
  none_between low high end = λ k t from to at. absurd (omega (arith, end, from, to))

  -- the one in the middle is less: so are all before it
  pub met_after : (low middle high : ℕ) (t : Touched) (result : Option ℕ) → low ≤ middle → slice_get olds middle ≡ Some t → With t ≡ Less
      → IsMet compare xs ys olds (middle + 1) high new result → IsMet compare xs ys olds low high new result
  met_after low middle high t None from at less met =
      λ k u k_from k_to k_at.
      elim (cases_order k middle) [
        | inl same ↦ not_equal (With u) Less (ap With (some_same u t (sym k_at ∙ (ap (slice_get olds) same ∙ at))) ∙ less) less_other
        | inr (inl lower) ↦ not_equal (With u) Less (o.trans _ _ _ (are.rise k middle u t lower k_at at) less) less_other
        | inr (inr more) ↦ met k u (omega (arith, more)) k_to k_at
      ]
  met_after low middle high t (Some k) from at less met = (omega (arith, met.0, from), met.1, met.2, met.3, met.4)

  -- it is greater: so are all after it
  pub met_before : (low middle high : ℕ) (t : Touched) (result : Option ℕ) → middle < high → slice_get olds middle ≡ Some t → With t ≡ Greater
      → IsMet compare xs ys olds low middle new result → IsMet compare xs ys olds low high new result
  met_before low middle high t None to at greater met =
      λ k u k_from k_to k_at.
      elim (cases_order k middle) [
        | inl same ↦ not_equal (With u) Greater (ap With (some_same u t (sym k_at ∙ (ap (slice_get olds) same ∙ at))) ∙ greater) greater_other
        | inr (inl lower) ↦ met k u k_from lower k_at
        | inr (inr more) ↦
            let back : compare (element_at ys new) (element_at xs t.source) ≡ Less = o.antisymm _ _ ∙ ap ordering_reverse greater in
            let through = o.trans _ _ _ back (are.rise middle k t u more at k_at) in
            not_equal (With u) Greater (o.antisymm _ _ ∙ ap ordering_reverse through) greater_other
      ]
  met_before low middle high t (Some k) to at greater met = (met.0, let less = met.1 in omega (arith, less, to), met.2, met.3, met.4)

  pub met_here : (low middle high : ℕ) (t : Touched) → low ≤ middle → middle < high → slice_get olds middle ≡ Some t → With t ≡ Equal
      → IsMet compare xs ys olds low high new (Some middle)
  met_here low middle high t from to at same = (from, to, t, at, same)

-- half of what is left has a digit less
pub halved : (low high middle part digits before after : ℕ) → low < high → middle ≡ low + (high - low) / 2 → (part ≤ high - (middle + 1)) → high - low < 2 ^ digits
    → ((fewer : ℕ) → part < 2 ^ fewer → after ≤ before + 1 + fewer) → after ≤ before + digits
halved low high middle part zero before after less is small few bound = absurd (omega (arith, less, few))
halved low high middle part (suc digits) before after less is small few bound =
    let whole : high - low < 2 ^ digits * 2 = rw pow-suc at few in
    let rest = bound digits (omega (arith, small, is, whole, less)) in
    omega (arith, rest)

pub halved_low : (low high middle digits before after : ℕ) → low < high → middle ≡ low + (high - low) / 2 → high - low < 2 ^ digits
    → ((fewer : ℕ) → middle - low < 2 ^ fewer → after ≤ before + 1 + fewer) → after ≤ before + digits
halved_low low high middle zero before after less is few bound = absurd (omega (arith, less, few))
halved_low low high middle (suc digits) before after less is few bound =
    let whole : high - low < 2 ^ digits * 2 = rw pow-suc at few in
    let rest = bound digits (omega (arith, is, whole, less)) in
    omega (arith, rest)
