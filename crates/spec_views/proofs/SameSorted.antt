-- Where its input doesn't change, neither does a sorted list.
use Rattle.std.proofs.Common.{◌≡◌, ◌≢◌, ◌∙◌, ◌==◌, ℕ, zero, suc, ◌+◌, ◌<◌, ◌≤◌, false, List, [], ◌∷◌, ◌++◌, length, map, flat_map, filter, refl, ap, sym, arith, inl, inr}
use Rattle.std.specs.Prelude.{Some, slice_get}
use Rattle.std.specs.List.{range_with_len}
use Rattle.std.specs.Cmp.{IsTotalOrder}
use Rattle.std.proofs.lemmas.Bool.{cases_eq, eq-eqb, ne_eqb}
use Rattle.std.proofs.lemmas.List.{length-map}
use Rattle.spec_value.specs.Tree.{Tree}
use Rattle.spec_lists.specs.Piece.{identity}
use Rattle.spec_lists.specs.Pairs.{Pair, pairs}
use Rattle.spec_lists.specs.Leads.{applied}
use Rattle.spec_lists.specs.Making.{pieces_by}
use Rattle.spec_lists.proofs.DeltaLeads.{applied_no_change}
use Rattle.spec_lists.proofs.Plains.{plains, pairs_identity, pieces_by_plains}
use Rattle.spec_views.specs.Arrangement.{Comparison, IsArrangement, arrangement}
use Rattle.spec_views.specs.Sorted.{sorted_view, stays, index_of, at_sorted_positions, by_old_position, sorted_pairs, sorted_follow}
use Rattle.spec_views.proofs.SortedPositions.{Every, In, Distinct, all_below}
use Rattle.spec_views.proofs.Indices.{index_found, index_placed, get_within}
use Rattle.spec_views.proofs.Arrangements.{arrangement_is, distinct_arrangement, within_arrangement}
use Rattle.spec_basics.proofs.Options.{same_some}

-- the pair of an element with itself
abbrev itself : ℕ → Pair
itself k = record { old = k; new = k; updated = false }

-- elements of a list between their sorted places
abbrev moved : List ℕ → ℕ → Pair
moved js i = record { old = index_of i js; new = index_of i js; updated = false }

-- those whose sorted place is this one: none, where no element stands there
none_at : (js : List ℕ) (k a m : ℕ) → ((i : ℕ) → a ≤ i → i < a + m → index_of i js ≢ k)
    → filter (λ p. p.old == k) (map (λ p. moved js p.old) (plains a m)) ≡ []
none_at js k a zero h = refl
none_at js k a (suc m) h =
    rw (ne_eqb (index_of a js) k (h a (omega arith) (omega arith))) (none_at js k (suc a) m (λ i le lt. h i (omega (arith, le)) (omega (arith, lt))))

-- and else one
one_at : (js : List ℕ) (k j a m : ℕ) → index_of j js ≡ k
    → ((i : ℕ) → a ≤ i → i < a + m → index_of i js ≡ k → i ≡ j) → a ≤ j → j < a + m
    → filter (λ p. p.old == k) (map (λ p. moved js p.old) (plains a m)) ≡ itself k ∷ []
one_at js k j a zero is only le lt = absurd (omega (arith, le, lt))
one_at js k j a (suc m) is only le lt = elim (cases_eq a j) [
  | inl same ↦
      let here : index_of a js ≡ k = ap (λ i. index_of i js) same ∙ is in
      let rest : filter (λ p. p.old == k) (map (λ p. moved js p.old) (plains (suc a) m)) ≡ [] =
      none_at js k (suc a) m (λ i more less e. let f : i ≡ j = only i (omega (arith, more)) (omega (arith, less)) e in omega (arith, more, f, same)) in
      rw (eq-eqb (index_of a js) k here) (both (index_of a js) k _ here rest)
  | inr other ↦
      let apart : index_of a js ≢ k = λ e. other (only a (omega arith) (omega arith) e) in
      rw (ne_eqb (index_of a js) k apart)
      (one_at js k j (suc a) m is (λ i more less e. only i (omega (arith, more)) (omega (arith, less)) e) (omega (arith, le, other)) (omega (arith, lt)))
]
  where
    both : (a b : ℕ) (ps : List Pair) → a ≡ b → ps ≡ [] → itself a ∷ ps ≡ itself b ∷ []
    both a b ps e f = cc

-- one for each place
each_position : (f : ℕ → List Pair) (a m : ℕ) → ((k : ℕ) → a ≤ k → k < a + m → f k ≡ itself k ∷ [])
    → flat_map f (range_with_len a m) ≡ plains a m
each_position f a zero h = refl
each_position f a (suc m) h =
    let next : a + 1 ≡ suc a = omega arith in
    both (f a) a _ _ (h a (omega arith) (omega arith)) (ap (λ b. flat_map f (range_with_len b m)) next ∙ each_position f (suc a) m (λ k le lt. h k (omega (arith, le)) (omega (arith, lt))))
  where
    both : (p : List Pair) (k : ℕ) (us vs : List Pair) → p ≡ itself k ∷ [] → us ≡ vs
        → p ++ us ≡ itself k ∷ vs
    both p k us vs e g = cc

-- plain pairs all stay
all_stay : (compare : Comparison) (xs : List Tree) (ps : List Pair) (a m : ℕ)
    → filter (stays compare xs xs ps) (plains a m) ≡ plains a m
all_stay compare xs ps a zero = refl
all_stay compare xs ps a (suc m) = ap (λ us. itself a ∷ us) (all_stay compare xs ps (suc a) m)

placed_alike : (compare : Comparison) (xs : List Tree) (a m : ℕ)
    → map (at_sorted_positions compare xs xs) (plains a m)
    ≡ map (λ p. moved (arrangement compare xs) p.old) (plains a m)
placed_alike compare xs a zero = refl
placed_alike compare xs a (suc m) = ap (λ us. moved (arrangement compare xs) a ∷ us) (placed_alike compare xs (suc a) m)

sorted_plains : (compare : Comparison) → IsTotalOrder compare → (xs : List Tree)
    → sorted_pairs compare xs xs (plains 0 (length xs)) ≡ plains 0 (length xs)
sorted_plains compare o xs =
    let js : List ℕ = arrangement compare xs in
    let is : IsArrangement compare xs js = arrangement_is compare o xs in
    let distinct : Distinct js = distinct_arrangement compare o xs js is in
    let below : Every (λ i. i < length xs) js = within_arrangement compare o xs js is in
    let all : (i : ℕ) → i < length xs → In i js = all_below (length xs) js is.long distinct below in
    ap (λ ps. by_old_position (length xs) (map (at_sorted_positions compare xs xs) ps)) (all_stay compare xs (plains 0 (length xs)) 0 (length xs))
    ∙ ap (by_old_position (length xs)) (placed_alike compare xs 0 (length xs))
    ∙ each_position (λ k. filter (λ p. p.old == k) (map (λ p. moved js p.old) (plains 0 (length xs)))) 0 (length xs) (λ k le lt. at_position js k is.long distinct is.within all lt)
  where
    at_position : (js : List ℕ) (k : ℕ) → length js ≡ length xs → Distinct js
        → ((p i : ℕ) → slice_get js p ≡ Some i → i < length xs)
        → ((i : ℕ) → i < length xs → In i js) → k < 0 + length xs
        → filter (λ p. p.old == k) (map (λ p. moved js p.old) (plains 0 (length xs)))
        ≡ itself k ∷ []
    at_position js k long distinct within all lt =
        let there : k < length js = omega (arith, lt, long) in
        let j : ℕ = (get_within js k there).0 in
        let at : slice_get js k ≡ Some j = (get_within js k there).1 in
        let less : j < length xs = within k j at in
        one_at js k j 0 (length xs) (index_placed js k j distinct at)
        (λ i le small e. same_some i j (sym (index_found i js (all i (omega (arith, small)))) ∙ ap (slice_get js) e ∙ at)) (omega arith) (omega (arith, less))

pub sorted_same : (compare : Comparison) → IsTotalOrder compare → (xs : List Tree)
    → sorted_follow compare xs (identity (length xs)) ≡ identity (length (sorted_view compare xs))
sorted_same compare o xs =
    let stay : applied (identity (length xs)) xs ≡ xs = applied_no_change xs in
    let long : length (sorted_view compare xs) ≡ length xs = length-map (arrangement compare xs) _ ∙ (arrangement_is compare o xs).long in
    ap (λ ys. pieces_by (sorted_view compare xs) (sorted_view compare ys) (sorted_pairs compare xs ys (pairs (identity (length xs))))) stay
    ∙ pieces_by_plains (sorted_view compare xs) (sorted_pairs compare xs xs (pairs (identity (length xs))))
    (ap (sorted_pairs compare xs xs) (pairs_identity (length xs)) ∙ sorted_plains compare o xs ∙ ap (plains 0) (sym long))
