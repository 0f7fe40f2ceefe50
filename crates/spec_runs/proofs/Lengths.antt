-- A list over one input that is no collection shows no more elements than its input does.
use Rattle.std.proofs.Common.{◌≡◌, ◌∙◌, ◌≤◌, ℕ, suc, ◌+◌, ◌-◌, Bool, true, false, cond, List, [], ◌∷◌, length, fold, drop, filter, refl, ap, arith}
use Rattle.std.specs.List.{range_with_len}
use Rattle.std.proofs.lemmas.List.{length-map, length-take, length-drop}
use Rattle.std.proofs.lemmas.List.FromFn.{length-range_with_len}
use Rattle.spec_value.specs.Tree.{Tree}
use Rattle.spec_lang.specs.Matcher.{accepts}
use Rattle.spec_lang.specs.Sorting.{order_cmp}
use Rattle.spec_lang.specs.Func.{eval}
use Rattle.spec_plans.specs.declared.class.ListClass.TheVariants.{Collected}
use Rattle.spec_views.specs.Source.{element_at}
use Rattle.spec_views.specs.Arrangement.{Comparison, is_before, arranged_with, arrangement}
use Rattle.spec_views.specs.Classes.{Class, first_of, has_key_of, with_member, classes_among, classes}
use Rattle.spec_views.specs.Unique.{shown_member}
use Rattle.spec_views.specs.Grouping.{group_of}
use Rattle.spec_views.specs.Range.{start_of, end_of}
use Rattle.spec_views.specs.View.{View, filter as filtering, sorted, unique, grouping, range, function, collection, view_of}
use Rattle.spec_runs.specs.Kinds.{class_of_view}
use Rattle.spec_views.proofs.Arrangements.{length-arranged}

fewer : (p : Tree → Bool) (xs : List Tree) → length (filter p xs) ≤ length xs
fewer p [] = omega arith
fewer p (x ∷ xs) = by_test (p x) (fewer p xs)
  where
    by_test : (b : Bool) → length (filter p xs) ≤ length xs
        → length (cond b (x ∷ filter p xs) (filter p xs)) ≤ length (x ∷ xs)
    by_test true h = omega (arith, h)
    by_test false h = omega (arith, h)

arranged_from : (before : ℕ → ℕ → Bool) (js ks : List ℕ)
    → length (fold (λ placed i. arranged_with before i placed) js ks) ≡ length js + length ks
arranged_from before js [] = omega arith
arranged_from before js (k ∷ ks) =
    arranged_from before (arranged_with before k js) ks ∙ omega (arith, length-arranged before k js)

length-arrangement : (compare : Comparison) (xs : List Tree)
    → length (arrangement compare xs) ≡ length xs
length-arrangement compare xs =
    arranged_from (is_before compare xs) [] (range_with_len 0 (length xs))
    ∙ omega (arith, length-range_with_len 0 (length xs))

one_member : (compare : Comparison) (xs : List Tree) (i : ℕ) (cs : List Class)
    → length (with_member compare xs i cs) ≤ suc (length cs)
one_member compare xs i [] = omega arith
one_member compare xs i (c ∷ cs) = by_test (has_key_of compare xs xs i (first_of c))
  where
    by_test : (b : Bool)
        → length (cond b ((i ∷ c) ∷ cs) ((i ∷ []) ∷ c ∷ cs)) ≤ suc (length (c ∷ cs))
    by_test true = omega arith
    by_test false = omega arith

few_among : (compare : Comparison) (xs : List Tree) (is : List ℕ)
    → length (classes_among compare xs is) ≤ length is
few_among compare xs [] = omega arith
few_among compare xs (i ∷ is) =
    let rest = few_among compare xs is in
    omega (arith, one_member compare xs i (classes_among compare xs is), rest)

few_classes : (compare : Comparison) (xs : List Tree) → length (classes compare xs) ≤ length xs
few_classes compare xs = omega (arith, few_among compare xs (arrangement compare xs), length-arrangement compare xs)

pub no_longer : (view : View) (xs : List Tree) → (class_of_view view ≡ Collected → ⊥)
    → length (view_of view xs) ≤ length xs
no_longer (filtering matcher) xs other = fewer (accepts matcher) xs
no_longer (sorted keys) xs other =
    omega (arith, length-map (arrangement (order_cmp keys) xs) (element_at xs), length-arrangement (order_cmp keys) xs)
no_longer (unique keys) xs other =
    omega (arith, length-map (classes (order_cmp keys) xs) (shown_member xs), few_classes (order_cmp keys) xs)
no_longer (grouping keys) xs other =
    omega (arith, length-map (classes (order_cmp keys) xs) (group_of xs), few_classes (order_cmp keys) xs)
no_longer (range bounds) xs other =
    let start : ℕ = start_of bounds (length xs) in
    let many : ℕ = end_of bounds (length xs) - start in
    omega (arith, length-take many (drop start xs), length-drop start xs)
no_longer (function func) xs other = omega (arith, length-map xs (eval func))
no_longer (collection path) xs other = absurd (other refl)
