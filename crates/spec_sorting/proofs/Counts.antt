-- How many of a list pass a test.
use Rattle.std.proofs.Common.{◌≡◌, ◌≢◌, ◌∙◌, ℕ, zero, suc, ◌+◌, ◌<◌, ◌≤◌, ◌==◌, ◌&&◌, Bool, true, false, List, [], ◌∷◌, map, refl, ap, sym, arith, inl, inr}
use Rattle.std.specs.Prelude.{nat_lt, not}
use Rattle.std.specs.List.{list_all, sum_by}
use Rattle.std.specs.List.Sorted.{IsPermutation}
use Rattle.std.proofs.lemmas.Bool.{cases_eq, cases_lt, eq-eqb, ne_eqb, lt-ltb, le-ltb}
use Rattle.std.proofs.lemmas.List.Sums.{sum_by-cons}
use Rattle.std.proofs.lemmas.List.Sorted.{sum_by-IsPermutation}
use Rattle.spec_lists.specs.Piece.{Piece, kept, updated, deleted, inserted, old_len}
use Rattle.spec_views.specs.Sorted.{index_of}
use Rattle.spec_views.proofs.SortedPositions.{In}
use Rattle.spec_sorting.specs.Moves.{IsRising, changed_olds}

-- one, where a test holds
abbrev pub one : Bool → ℕ
one true = 1
one false = 0

abbrev pub how_many : {X : Type 0} → (X → Bool) → List X → ℕ
how_many test [] = 0
how_many test (x ∷ xs) = one (test x) + how_many test xs

summed : {X : Type 0} (test : X → Bool) (xs : List X) → how_many test xs ≡ sum_by (λ x. one (test x)) xs
summed test [] = refl
summed test (x ∷ xs) = ap (λ k. one (test x) + k) (summed test xs) ∙ sym (sum_by-cons (λ y. one (test y)) x xs)

-- in another order they are as many
pub many_permuted : {X : Type 0} (test : X → Bool) (xs ys : List X) → IsPermutation xs ys → how_many test xs ≡ how_many test ys
many_permuted test xs ys same = summed test xs ∙ (sym (sum_by-IsPermutation (λ x. one (test x)) xs ys same) ∙ sym (summed test ys))

all_or_some : {X : Type 0} (test : X → Bool) (xs : List X) → list_all test xs ≡ (how_many (λ x. not (test x)) xs == 0)
all_or_some test [] = refl
all_or_some {X = X} test (x ∷ xs) = by (test x) (all_or_some test xs)
  where
    by : (t : Bool) → list_all test xs ≡ (how_many (λ y. not (test y)) xs == 0) → (t && list_all test xs) ≡ (one (not t) + how_many (λ y. not (test y)) xs == 0)
    by true e = let none : 0 + how_many (λ y. not (test y)) xs ≡ how_many (λ y. not (test y)) xs = omega arith in rw none e
    by false e = sym (ne_eqb (1 + how_many (λ y. not (test y)) xs) 0 (λ f. omega (arith, f)))

pub all_permuted : {X : Type 0} (test : X → Bool) (xs ys : List X) → IsPermutation xs ys → list_all test xs ≡ list_all test ys
all_permuted test xs ys same =
    all_or_some test xs ∙ (ap (λ k. k == 0) (many_permuted (λ x. not (test x)) xs ys same) ∙ sym (all_or_some test ys))

pub many_mapped : {X Y : Type 0} (test : Y → Bool) (f : X → Y) (xs : List X) → how_many test (map f xs) ≡ how_many (λ x. test (f x)) xs
many_mapped test f [] = refl
many_mapped test f (x ∷ xs) = ap (λ k. one (test (f x)) + k) (many_mapped test f xs)

-- so many numbers, the first of which is this one
abbrev pub numbers : ℕ → ℕ → List ℕ
numbers a zero = []
numbers a (suc n) = a ∷ numbers (suc a) n

-- the old elements that are of a plain pair
abbrev pub plain_olds : ℕ → List Piece → List ℕ
plain_olds i [] = []
plain_olds i (kept ∷ ps) = i ∷ plain_olds (suc i) ps
plain_olds i (updated v w ∷ ps) = plain_olds (suc i) ps
plain_olds i (deleted v ∷ ps) = plain_olds (suc i) ps
plain_olds i (inserted w ∷ ps) = plain_olds i ps

-- each old element is plain or changed
pub plain_or_changed : (test : ℕ → Bool) (ps : List Piece) (i : ℕ)
    → how_many test (plain_olds i ps) + how_many test (changed_olds i ps) ≡ how_many test (numbers i (old_len ps))
plain_or_changed test [] i = refl
plain_or_changed test (kept ∷ ps) i = omega (arith, plain_or_changed test ps (suc i))
plain_or_changed test (updated v w ∷ ps) i = omega (arith, plain_or_changed test ps (suc i))
plain_or_changed test (deleted v ∷ ps) i = omega (arith, plain_or_changed test ps (suc i))
plain_or_changed test (inserted w ∷ ps) i = plain_or_changed test ps i

-- none of the numbers
none_of : (test : ℕ → Bool) (a n : ℕ) → ((i : ℕ) → a ≤ i → i < a + n → test i ≡ false) → how_many test (numbers a n) ≡ 0
none_of test a zero fails = refl
none_of test a (suc n) fails =
    let here = fails a (omega arith) (omega arith) in
    rw here (omega (arith, none_of test (suc a) n (λ i more less. fails i (omega (arith, more)) (omega (arith, less)))))

-- one of them alone
one_of : (test : ℕ → Bool) (a n j : ℕ) → a ≤ j → j < a + n → test j ≡ true
    → ((i : ℕ) → a ≤ i → i < a + n → i ≢ j → test i ≡ false) → how_many test (numbers a n) ≡ 1
one_of test a zero j from to is others = absurd (omega (arith, from, to))
one_of test a (suc n) j from to is others = elim (cases_eq a j) [
  | inl same ↦
      let here : test a ≡ true = ap test same ∙ is in
      let none = none_of test (suc a) n (λ i more less. others i (omega (arith, more)) (omega (arith, less)) (λ e. omega (arith, more, e, same))) in
      rw here (omega (arith, none))
  | inr other ↦
      let here : test a ≡ false = others a (omega arith) (omega arith) other in
      let more_ = one_of test (suc a) n j (omega (arith, from, other)) (omega (arith, to)) is (λ i more less ne. others i (omega (arith, more)) (omega (arith, less)) ne) in
      rw here (omega (arith, more_))
]

-- those below a number and those equal to it
below_next : {X : Type 0} (f : X → ℕ) (k : ℕ) (xs : List X)
    → how_many (λ x. nat_lt (f x) (suc k)) xs ≡ how_many (λ x. nat_lt (f x) k) xs + how_many (λ x. f x == k) xs
below_next f k [] = refl
below_next f k (x ∷ xs) = by (f x) (below_next f k xs)
  where
    by : (i : ℕ) → how_many (λ x. nat_lt (f x) (suc k)) xs ≡ how_many (λ x. nat_lt (f x) k) xs + how_many (λ x. f x == k) xs
        → one (nat_lt i (suc k)) + how_many (λ x. nat_lt (f x) (suc k)) xs ≡ (one (nat_lt i k) + how_many (λ x. nat_lt (f x) k) xs) + (one (i == k) + how_many (λ x. f x == k) xs)
    by i e =
        elim (cases_lt i k) [
          | inl less ↦
              rw (lt-ltb i (suc k) (omega (arith, less)), lt-ltb i k less, ne_eqb i k (λ f. omega (arith, less, f))) (omega (arith, e))
          | inr more ↦
              elim (cases_eq i k) [
                | inl same ↦ rw (lt-ltb i (suc k) (omega (arith, same)), le-ltb i k more, eq-eqb i k same) (omega (arith, e))
                | inr other ↦ rw (le-ltb i (suc k) (omega (arith, more, other)), le-ltb i k more, ne_eqb i k other) (omega (arith, e))
              ]
        ]

-- Numbers that take each place below n once: as many are below a place as it says.
pub below_position : (place : ℕ → ℕ) (n : ℕ)
    → ((k : ℕ) → k < n → (j : ℕ) × (j < n) × (place j ≡ k) × ((i : ℕ) → i < n → place i ≡ k → i ≡ j))
    → (k : ℕ) → k ≤ n → how_many (λ i. nat_lt (place i) k) (numbers 0 n) ≡ k
below_position place n each zero low = none_of (λ i. nat_lt (place i) 0) 0 n (λ i more less. le-ltb (place i) 0 (omega arith))
below_position place n each (suc k) low =
    let at = each k low in
    let same = one_of (λ i. place i == k) 0 n at.0 (omega arith) (omega (arith, at.1)) (eq-eqb (place at.0) k at.2)
    (λ i more less other. ne_eqb (place i) k (λ e. other (at.3 i (omega (arith, less)) e))) in
    below_next place k (numbers 0 n) ∙ omega (arith, same, below_position place n each k (omega (arith, low)))

-- the rising numbers below one of them
none_below : (a low : ℕ) (gs : List ℕ) → a ≤ low → IsRising low gs → how_many (λ g. nat_lt g a) gs ≡ 0
none_below a low [] less rise = refl
none_below a low (g ∷ gs) less rise =
    rw (le-ltb g a (omega (arith, less, rise.0))) (omega (arith, none_below a (suc g) gs (omega (arith, less, rise.0)) rise.1))

rising_least : (a low : ℕ) (gs : List ℕ) → IsRising low gs → In a gs → low ≤ a
rising_least a low [] rise found = absurd found
rising_least a low (g ∷ gs) rise (inl same) = omega (arith, rise.0, same)
rising_least a low (g ∷ gs) rise (inr later) = omega (arith, rise.0, rising_least a (suc g) gs rise.1 later)

pub below_index : (a low : ℕ) (gs : List ℕ) → IsRising low gs → In a gs → how_many (λ g. nat_lt g a) gs ≡ index_of a gs
below_index a low [] rise found = absurd found
below_index a low (g ∷ gs) rise found = elim (cases_eq g a) [
  | inl same ↦
      rw (eq-eqb g a same, le-ltb g a (omega (arith, same))) (omega (arith, none_below a (suc g) gs (omega (arith, same)) rise.1))
  | inr other ↦
      let later : In a gs = remaining found other in
      let less = rising_least a (suc g) gs rise.1 later in
      rw (ne_eqb g a other, lt-ltb g a (omega (arith, less))) (omega (arith, below_index a (suc g) gs rise.1 later))
]
  where
    remaining : In a (g ∷ gs) → g ≢ a → In a gs
    remaining (inl same) other = absurd (other (sym same))
    remaining (inr later) other = later
