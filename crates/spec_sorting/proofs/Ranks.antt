-- Plain pairs never cross one another. So an updated pair crosses none of them exactly where as many stand before it on
-- both sides.
use Rattle.std.proofs.Common.{◌≡◌, ◌≢◌, ◌⊎◌, ◌∙◌, ℕ, ◌+◌, ◌<◌, ◌≤◌, ◌==◌, ◌&&◌, Bool, true, false, List, [], ◌∷◌, length, map, refl, ap, sym, subst, arith, inl, inr}
use Rattle.std.specs.Prelude.{nat_lt, not, if◌then◌else◌}
use Rattle.std.specs.Cmp.{IsTotalOrder}
use Rattle.std.specs.List.{list_all, AllByRecursion as Each}
use Rattle.std.specs.List.Sorted.{IsPermutation}
use Rattle.std.proofs.lemmas.Bool.{cases_Bool, cases_order, eq-eqb, ne_eqb, eqb-true, lt-ltb, le-ltb}
use Rattle.spec_value.specs.Tree.{Tree}
use Rattle.spec_lists.specs.Piece.{Piece, old_len}
use Rattle.spec_lists.specs.Pairs.{Pair}
use Rattle.spec_views.specs.Arrangement.{Comparison}
use Rattle.spec_views.specs.Sorted.{index_of}
use Rattle.spec_views.proofs.SortedPositions.{In}
use Rattle.spec_sorting.specs.Moves.{IsRising, changed_olds, sorted_position, plain_before, keeps_side}
use Rattle.spec_sorting.proofs.Counts.{how_many, one, many_permuted, many_mapped, numbers, plain_olds, plain_or_changed, below_position, below_index}
use Rattle.spec_sorting.proofs.Positions.{position_below, one_at}

-- whether two truth values are one
abbrev pub alike : Bool → Bool → Bool
alike true b = b
alike false b = not b

alike_back : (a b : Bool) → alike a b ≡ alike b a
alike_back true true = refl
alike_back true false = refl
alike_back false true = refl
alike_back false false = refl

pub all_agree : {X : Type 0} (f g : X → Bool) (xs : List X) → Each (λ x. f x ≡ g x) xs → list_all f xs ≡ list_all g xs
all_agree f g [] e = refl
all_agree f g (x ∷ xs) e = both (f x) (g x) (list_all f xs) (list_all g xs) e.0 (all_agree f g xs e.1)
  where
    both : (a b c d : Bool) → a ≡ b → c ≡ d → (a && c) ≡ (b && d)
    both a b c d e f = cc

number_back : (a b : ℕ) → (a == b) ≡ (b == a)
number_back a b = elim (cases_order a b) [
  | inl same ↦ eq-eqb a b same ∙ sym (eq-eqb b a (sym same))
  | inr (inl less) ↦ ne_eqb a b (λ e. omega (arith, less, e)) ∙ sym (ne_eqb b a (λ e. omega (arith, less, e)))
  | inr (inr more) ↦ ne_eqb a b (λ e. omega (arith, more, e)) ∙ sym (ne_eqb b a (λ e. omega (arith, more, e)))
]

-- Where one test holds wherever another does, they are one exactly where they hold of as many.
module _ {X : Type 0} (f g : X → Bool) where
  fewer : (xs : List X) → Each (λ x. f x ≡ true → g x ≡ true) xs → how_many f xs ≤ how_many g xs
  fewer [] e = omega arith
  fewer (x ∷ xs) e = by (f x) (g x) e.0 (fewer xs e.1)
    where
      by : (a b : Bool) → (a ≡ true → b ≡ true) → how_many f xs ≤ how_many g xs → one a + how_many f xs ≤ one b + how_many g xs
      by true true to less = omega (arith, less)
      by true false to less = absurd (let e = to refl in absurd cc)
      by false true to less = omega (arith, less)
      by false false to less = omega (arith, less)

  pub inside : (xs : List X) → Each (λ x. f x ≡ true → g x ≡ true) xs → list_all (λ x. alike (f x) (g x)) xs ≡ (how_many f xs == how_many g xs)
  inside [] e = refl
  inside (x ∷ xs) e = by (f x) (g x) e.0 (fewer xs e.1) (inside xs e.1)
    where
      by : (a b : Bool) → (a ≡ true → b ≡ true) → how_many f xs ≤ how_many g xs → list_all (λ x. alike (f x) (g x)) xs ≡ (how_many f xs == how_many g xs)
          → (alike a b && list_all (λ x. alike (f x) (g x)) xs) ≡ (one a + how_many f xs == one b + how_many g xs)
      by true true to less e = e ∙ shifted (how_many f xs) (how_many g xs)
        where
          shifted : (m n : ℕ) → (m == n) ≡ (1 + m == 1 + n)
          shifted m n = elim (cases_order m n) [
            | inl same ↦ eq-eqb m n same ∙ sym (eq-eqb (1 + m) (1 + n) (omega (arith, same)))
            | inr (inl less) ↦ ne_eqb m n (λ e. omega (arith, less, e)) ∙ sym (ne_eqb (1 + m) (1 + n) (λ e. omega (arith, less, e)))
            | inr (inr more) ↦ ne_eqb m n (λ e. omega (arith, more, e)) ∙ sym (ne_eqb (1 + m) (1 + n) (λ e. omega (arith, more, e)))
          ]
      by true false to less e = let f = to refl in absurd cc
      by false true to less e = sym (ne_eqb (0 + how_many f xs) (1 + how_many g xs) (λ f. omega (arith, less, f)))
      by false false to less e =
          let m : 0 + how_many f xs ≡ how_many f xs = omega arith in
          let n : 0 + how_many g xs ≡ how_many g xs = omega arith in
          rw (m, n) e

  -- either the one test holds wherever the other does, or there is an element of which the other alone holds
  outside_or : (K : X → Type 0) (xs : List X) → Each K xs
      → Each (λ x. f x ≡ true → g x ≡ true) xs ⊎ ((x : X) × K x × (f x ≡ true) × (g x ≡ false))
  outside_or K [] e = inl tt
  outside_or K (x ∷ xs) e = elim (outside_or K xs e.1) [
    | inr found ↦ inr found
    | inl all ↦
        elim (cases_Bool (f x)) [
          | inl holds ↦
              elim (cases_Bool (g x)) [
                | inl holds_too ↦ inl ((λ _. holds_too, all))
                | inr fails ↦ inr (x, e.0, holds, fails)
              ]
          | inr fails ↦ inl ((λ holds. (absurd (true_false (sym holds ∙ fails))), all))
        ]
  ]
    where
      true_false : true ≡ false → ⊥
      true_false e = absurd cc

module _ {X : Type 0} (f g : X → Bool) (xs : List X) where
  -- where an element of which the one test alone holds shuts out any of which the other alone does
  pub nested : Each (λ x. Each (λ y. f x ≡ true → g x ≡ false → g y ≡ true → f y ≡ true) xs) xs
      → list_all (λ x. alike (f x) (g x)) xs ≡ (how_many f xs == how_many g xs)
  nested shut = elim (outside_or f g (λ x. Each (λ y. f x ≡ true → g x ≡ false → g y ≡ true → f y ≡ true) xs) xs shut) [
    | inl all ↦ inside f g xs all
    | inr found ↦
        all_agree (λ x. alike (f x) (g x)) (λ x. alike (g x) (f x)) xs (each (λ x. alike_back (f x) (g x)) xs)
        ∙ (inside g f xs (within xs found.1 found.2 found.3) ∙ number_back (how_many g xs) (how_many f xs))
  ]
    where
      each : {P : X → Type 0} → ((x : X) → P x) → (us : List X) → Each P us
      each h [] = tt
      each h (u ∷ us) = (h u, each h us)

      within : {x : X} (us : List X) → Each (λ y. f x ≡ true → g x ≡ false → g y ≡ true → f y ≡ true) us → f x ≡ true → g x ≡ false → Each (λ y. g y ≡ true → f y ≡ true) us
      within [] e holds fails = tt
      within (u ∷ us) e holds fails = (e.0 holds fails, within us e.1 holds fails)

-- a number that is one of a list stands in it more than never
in_many : (a : ℕ) (gs : List ℕ) → In a gs → 0 < how_many (λ g. g == a) gs
in_many a [] found = absurd found
in_many a (g ∷ gs) (inl same) = rw (eq-eqb g a (sym same)) (omega arith)
in_many a (g ∷ gs) (inr later) = by (g == a) (in_many a gs later)
  where
    by : (t : Bool) → 0 < how_many (λ g. g == a) gs → 0 < one t + how_many (λ g. g == a) gs
    by true more = omega (arith, more)
    by false more = omega (arith, more)

many_in : (a : ℕ) (gs : List ℕ) → 0 < how_many (λ g. g == a) gs → In a gs
many_in a [] more = absurd (omega (arith, more))
many_in a (g ∷ gs) more = elim (cases_Bool (g == a)) [
  | inl same ↦ inl (sym (eqb-true g a same))
  | inr other ↦ let rest : 0 < 0 + how_many (λ g. g == a) gs = rw other at more in inr (many_in a gs (omega (arith, rest)))
]

pub in_permuted : (a : ℕ) (fs gs : List ℕ) → IsPermutation fs gs → In a fs → In a gs
in_permuted a fs gs same found = many_in a gs (subst (λ k. 0 < k) (many_permuted (λ g. g == a) fs gs same) (in_many a fs found))

pub in_mapped : (f : ℕ → ℕ) (i : ℕ) (is : List ℕ) → In i is → In (f i) (map f is)
in_mapped f i [] found = absurd found
in_mapped f i (j ∷ js) (inl same) = inl (ap f same)
in_mapped f i (j ∷ js) (inr later) = inr (in_mapped f i js later)

-- how many plain elements stand before a changed one in sorted order
module _ (compare : Comparison) (o : IsTotalOrder compare) (zs : List Tree) (ps : List Piece) (gone : List ℕ) where
  pub rank_is : old_len ps ≡ length zs → IsRising 0 gone → IsPermutation (map (sorted_position compare zs) (changed_olds 0 ps)) gone
      → (i : ℕ) → i < length zs → In i (changed_olds 0 ps)
      → how_many (λ k. nat_lt (sorted_position compare zs k) (sorted_position compare zs i)) (plain_olds 0 ps) ≡ plain_before gone (sorted_position compare zs i)
  rank_is long rise are i within changed =
      let place : ℕ → ℕ = sorted_position compare zs in
      let a : ℕ = place i in
      let found : In a gone = in_permuted a (map place (changed_olds 0 ps)) gone are (in_mapped place i (changed_olds 0 ps) changed) in
      let low : a ≤ length zs = omega (arith, position_below compare o zs i within) in
      let all : how_many (λ k. nat_lt (place k) a) (numbers 0 (old_len ps)) ≡ a =
      ap (λ n. how_many (λ k. nat_lt (place k) a) (numbers 0 n)) long ∙ below_position place (length zs) (one_at compare o zs) a low in
      let gone_are : how_many (λ k. nat_lt (place k) a) (changed_olds 0 ps) ≡ index_of a gone =
      sym (many_mapped (λ g. nat_lt g a) place (changed_olds 0 ps))
      ∙ (many_permuted (λ g. nat_lt g a) (map place (changed_olds 0 ps)) gone are ∙ below_index a 0 gone rise found) in
      omega (arith, plain_or_changed (λ k. nat_lt (place k) a) ps 0, all, gone_are)

-- a pair keeps its side to one that it shares no place with, where both sides say the same of which is first
pub side_alike : (p q : Pair) → p.old ≢ q.old → p.new ≢ q.new → keeps_side p q ≡ alike (nat_lt q.old p.old) (nat_lt q.new p.new)
side_alike p q apart apart_too =
    by (nat_lt p.old q.old) (nat_lt q.old p.old) (nat_lt p.new q.new) (nat_lt q.new p.new) (inverted p.old q.old apart) (inverted p.new q.new apart_too)
  where
    inverted : (a b : ℕ) → a ≢ b → nat_lt b a ≡ not (nat_lt a b)
    inverted a b other = elim (cases_order a b) [
      | inl same ↦ absurd (other same)
      | inr (inl less) ↦ rw (lt-ltb a b less) (le-ltb b a (omega (arith, less)))
      | inr (inr more) ↦ rw (le-ltb a b (omega (arith, more))) (lt-ltb b a more)
    ]

    by : (t u v w : Bool) → u ≡ not t → w ≡ not v → (if t then v else not v) ≡ alike u w
    by true u true w e f = rw (e, f) refl
    by true u false w e f = rw (e, f) refl
    by false u true w e f = rw (e, f) refl
    by false u false w e f = rw (e, f) refl
