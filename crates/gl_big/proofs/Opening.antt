-- No list of the large plan of a size up to 10,000 opens too long.
use Rattle.std.proofs.Common.{◌≡◌, ◌∙◌, ◌+◌, ◌*◌, ◌%◌, ◌<◌, ◌≤◌, ℕ, zero, suc, Bool, true, false, cond, List, [], ◌∷◌, ◌++◌, length, map, refl, sym, ap, arith, length-append}
use Rattle.std.specs.Prelude.{pos, filter, nat_le, unwrap_or, None}
use Rattle.std.specs.List.{range_with_len}
use Rattle.std.proofs.lemmas.Bool.Decides.{nat_tests}
use Rattle.std.proofs.lemmas.List.{length-map}
use Rattle.std.proofs.lemmas.List.FromFn.{length-range_with_len}
use Rattle.std.proofs.lemmas.Option.{slice_get_past}
use Rattle.spec_value.specs.Tree.{Tree, num}
use Rattle.spec_lang.specs.Matcher.{Matcher, accepts, is}
use Rattle.spec_lang.specs.declared.Test.TheVariants.{Ge}
use Rattle.spec_lang.specs.Sorting.{Key, order_cmp}
use Rattle.spec_lang.specs.Func.{count, eval}
use Rattle.spec_lang.proofs.Sortings.{order_cmp_total}
use Rattle.spec_views.specs.Arrangement.{Comparison, arrangement}
use Rattle.spec_views.specs.Source.{element_at}
use Rattle.spec_views.specs.Classes.{Class, first_of, has_key_of, with_member, classes_among, classes}
use Rattle.spec_views.specs.Filter.{filter_view}
use Rattle.spec_views.specs.Sorted.{sorted_view}
use Rattle.spec_views.specs.Unique.{shown_member, unique_view}
use Rattle.spec_views.specs.Grouping.{group_of, grouping_view}
use Rattle.spec_views.proofs.Arrangements.{arrangement_is}
use Rattle.spec_states.specs.State.{State, own_at, dependency_order}
use Rattle.spec_states.specs.Shown.{Table, shows_in, table_of, shown, shown_of}
use Rattle.spec_states.specs.Opening.{opening}
use Rattle.spec_states.specs.Step.{first_longer, too_long}
use Rattle.spec_states.proofs.Views.{length-table_of, shown_is}
use Rattle.spec_runs.proofs.Ordered.{opening_sound}
use Rattle.spec_reports.specs.Big.{element, upwards, big_plan}
use Rattle.gl_big.proofs.Formed.{big_acyclic, big_formed}

mapped_few : {X : Type 0} (f : X → Tree) (xs : List X) (most : ℕ) → length xs ≤ most → length (map f xs) ≤ most
mapped_few f xs most few = omega (arith, length-map xs f, few)

same_few : {X Y : Type 0} (xs : List X) (ys : List Y) → length xs ≡ length ys → length xs ≤ length ys
same_few xs ys e = omega (arith, e)

-- a list that is another one, which is short
bounded : (xs ys : List Tree) (inner most : ℕ) → xs ≡ ys → length ys ≤ inner → inner ≤ most → length xs ≤ most
bounded xs ys inner most e few small = omega (arith, ap length e, few, small)

two_bounded : (xs ys zs : List Tree) → xs ≡ ys ++ (zs ++ []) → length ys ≤ 10000 → length zs ≤ 10000 → length xs ≤ 20000
two_bounded xs ys zs e few more = omega (arith, ap length e, few, more, length-append ys (zs ++ []), length-append zs [])

widest : (n most : ℕ) → n ≤ 20000 → 20000 ≤ most → n ≤ most
widest n most few wide = omega (arith, few, wide)

past_end : (t : Table) (k : ℕ) → length t ≡ 7 → 7 ≤ k → length t ≤ k
past_end t k e past = omega (arith, e, past)

many_numbers : (n : ℕ) → length (range_with_len 0 n) ≤ n
many_numbers n = omega (arith, length-range_with_len 0 n)

wider : (n most : ℕ) → n ≤ 10000 → 20000 ≤ most → n ≤ most
wider n most few wide = omega (arith, few, wide)

few_filtered : (p : Tree → Bool) (xs : List Tree) → length (filter p xs) ≤ length xs
few_filtered p [] = omega arith
few_filtered p (x ∷ xs) = by (p x) (few_filtered p xs)
  where
    by : (t : Bool) → length (filter p xs) ≤ length xs → length (cond t (x ∷ filter p xs) (filter p xs)) ≤ length (x ∷ xs)
    by true few = omega (arith, few)
    by false few = omega (arith, few)

module _ (compare : Comparison) (xs : List Tree) where
  one_class_more : (i : ℕ) (cs : List Class) → length (with_member compare xs i cs) ≤ length cs + 1
  one_class_more i [] = omega arith
  one_class_more i (c ∷ cs) = by (has_key_of compare xs xs i (first_of c))
    where
      by : (t : Bool) → length (cond t ((i ∷ c) ∷ cs) ((i ∷ []) ∷ c ∷ cs)) ≤ length (c ∷ cs) + 1
      by true = omega arith
      by false = omega arith

  few_among : (places : List ℕ) → length (classes_among compare xs places) ≤ length places
  few_among [] = omega arith
  few_among (i ∷ places) = omega (arith, few_among places, one_class_more i (classes_among compare xs places))

module _ (keys : List Key) (xs : List Tree) where
  as_many_arranged : length (arrangement (order_cmp keys) xs) ≡ length xs
  as_many_arranged = (arrangement_is (order_cmp keys) (order_cmp_total keys) xs).long

  few_classes : length (classes (order_cmp keys) xs) ≤ length xs
  few_classes = omega (arith, as_many_arranged, few_among (order_cmp keys) xs (arrangement (order_cmp keys) xs))

  few_sorted : length (sorted_view (order_cmp keys) xs) ≤ length xs
  few_sorted =
      mapped_few (element_at xs) (arrangement (order_cmp keys) xs) (length xs) (same_few (arrangement (order_cmp keys) xs) xs as_many_arranged)

  few_unique : length (unique_view (order_cmp keys) xs) ≤ length xs
  few_unique = mapped_few (shown_member xs) (classes (order_cmp keys) xs) (length xs) few_classes

  few_groups : length (grouping_view (order_cmp keys) xs) ≤ length xs
  few_groups = mapped_few (group_of xs) (classes (order_cmp keys) xs) (length xs) few_classes

none_longer : (limit : ℕ) (t : Table) (lists : List ℕ) → ((k : ℕ) → length (shows_in t k) ≤ limit)
    → first_longer limit t lists ≡ None
none_longer limit t [] few = refl
none_longer limit t (list ∷ lists) few =
    let fits : nat_le (length (shows_in t list)) limit ≡ true = grind (arith, nat_tests, few list) in
    rw fits (none_longer limit t lists few)

-- the orders of the lists, and what the filter accepts
abbrev first : List Key
first = upwards 0 ∷ []

abbrev both : List Key
both = upwards 0 ∷ upwards 1 ∷ []

abbrev least : Matcher
least = is (0 ∷ []) Ge (num (pos 50))

module _ (n : ℕ) (small : n ≤ 10000) where
  abbrev state : State
  state = opening (big_plan n)

  shows : (k : ℕ) → k < 7 → shown state k ≡ shown_of (own_at state k) (shown state)
  shows k l = shown_is state (opening_sound (big_plan n) (big_formed n) (big_acyclic n)) k l

  source_few : length (shown state 0) ≤ 10000
  source_few =
      bounded (shown state 0) (shown_of (own_at state 0) (shown state)) n 10000 (shows 0 (omega arith))
      (mapped_few (λ k. element ((37 * k) % 101) (k % 7)) (range_with_len 0 n) n (many_numbers n)) small

  filter_few : length (shown state 1) ≤ 10000
  filter_few =
      bounded (shown state 1) (filter_view (accepts least) (shown state 0)) (length (shown state 0)) 10000 (shows 1 (omega arith))
      (few_filtered (accepts least) (shown state 0)) source_few

  sorted_few : length (shown state 2) ≤ 10000
  sorted_few =
      bounded (shown state 2) (sorted_view (order_cmp both) (shown state 1)) (length (shown state 1)) 10000
      (shows 2 (omega arith)) (few_sorted both (shown state 1)) filter_few

  unique_few : length (shown state 3) ≤ 10000
  unique_few =
      bounded (shown state 3) (unique_view (order_cmp first) (shown state 0)) (length (shown state 0)) 10000
      (shows 3 (omega arith)) (few_unique first (shown state 0)) source_few

  groups_few : length (shown state 4) ≤ 10000
  groups_few =
      bounded (shown state 4) (grouping_view (order_cmp first) (shown state 0)) (length (shown state 0)) 10000
      (shows 4 (omega arith)) (few_groups first (shown state 0)) source_few

  counts_few : length (shown state 5) ≤ 10000
  counts_few =
      bounded (shown state 5) (map (eval (count [])) (shown state 4)) (length (shown state 4)) 10000
      (shows 5 (omega arith)) (mapped_few (eval (count [])) (shown state 4) (length (shown state 4)) (same_few (shown state 4) (shown state 4) refl)) groups_few

  both_few : length (shown state 6) ≤ 20000
  both_few = two_bounded (shown state 6) (shown state 2) (shown state 3) (shows 6 (omega arith)) sorted_few unique_few

  past_none : (k : ℕ) → 7 ≤ k → length (shown state k) ≤ 20000
  past_none k past =
      let none : shown state k ≡ [] =
      ap (λ o. unwrap_or o []) (slice_get_past (table_of state) k (past_end (table_of state) k (length-table_of state) past)) in
      bounded (shown state k) [] 0 20000 none (omega arith) (omega arith)

  each_few : (most : ℕ) → 20000 ≤ most → (k : ℕ) → length (shown state k) ≤ most
  each_few most wide zero = wider (length (shown state 0)) most source_few wide
  each_few most wide (suc zero) = wider (length (shown state 1)) most filter_few wide
  each_few most wide (suc (suc zero)) = wider (length (shown state 2)) most sorted_few wide
  each_few most wide (suc (suc (suc zero))) = wider (length (shown state 3)) most unique_few wide
  each_few most wide (suc (suc (suc (suc zero)))) = wider (length (shown state 4)) most groups_few wide
  each_few most wide (suc (suc (suc (suc (suc zero))))) = wider (length (shown state 5)) most counts_few wide
  each_few most wide (suc (suc (suc (suc (suc (suc zero)))))) = widest (length (shown state 6)) most both_few wide
  each_few most wide (suc (suc (suc (suc (suc (suc (suc k))))))) =
      widest (length (shown state (suc (suc (suc (suc (suc (suc (suc k))))))))) most
      (past_none (suc (suc (suc (suc (suc (suc (suc k))))))) (omega arith)) wide

  pub never_long : too_long 16777216 (opening (big_plan n)) ≡ None
  never_long = none_longer 16777216 (table_of state) (dependency_order state) (each_few 16777216 (omega arith))
