-- Where numbers stand that rise.
use Rattle.std.proofs.Common.{◌≡◌, ◌≢◌, ◌+◌, ◌-◌, ◌==◌, ◌<◌, ◌≤◌, ℕ, zero, suc, List, [], ◌∷◌, length, Some, refl, sym, ap, ◌∙◌, inl, inr, arith, eq-eqb}
use Rattle.std.specs.List.{slice_get}
use Rattle.std.proofs.lemmas.Bool.{cases_eq, cases_lt, ne_eqb}
use Rattle.std.proofs.lemmas.Option.{slice_get_within}
use Rattle.spec_sorting.specs.Sorted.{index_of}
use Rattle.spec_sorting.specs.Moves.{IsRising}

pub rising_above : (low : ℕ) (ns : List ℕ) (k n : ℕ) → IsRising low ns → slice_get ns k ≡ Some n → low + k ≤ n
rising_above low [] k n r e = absurd cc
rising_above low (m ∷ ns) zero n r e = let same : m ≡ n = cc in let first = r.0 in omega (arith, first, same)
rising_above low (m ∷ ns) (suc k) n r e = let first = r.0 in omega (arith, first, rising_above (suc m) ns k n r.1 e)

-- two of them
pub rising_less : (low : ℕ) (ns : List ℕ) (j k m n : ℕ) → IsRising low ns → j < k → slice_get ns j ≡ Some m → slice_get ns k ≡ Some n → m < n
rising_less low [] j k m n r less e f = absurd cc
rising_less low (i ∷ ns) zero zero m n r less e f = absurd (omega (arith, less))
rising_less low (i ∷ ns) zero (suc k) m n r less e f = let same : i ≡ m = cc in omega (arith, same, rising_above (suc i) ns k n r.1 f)
rising_less low (i ∷ ns) (suc j) zero m n r less e f = absurd (omega (arith, less))
rising_less low (i ∷ ns) (suc j) (suc k) m n r less e f = rising_less (suc i) ns j k m n r.1 (omega (arith, less)) e f

-- each stands at one place
pub rising_index : (low : ℕ) (ns : List ℕ) (k n : ℕ) → IsRising low ns → slice_get ns k ≡ Some n → index_of n ns ≡ k
rising_index low [] k n r e = absurd cc
rising_index low (m ∷ ns) zero n r e = let same : m ≡ n = cc in rw (eq-eqb m n same) refl
rising_index low (m ∷ ns) (suc k) n r e =
    let above = rising_above (suc m) ns k n r.1 e in
    let other : m ≢ n = λ same. omega (arith, same, above) in
    rw (ne_eqb m n other) (ap suc (rising_index (suc m) ns k n r.1 e))

-- the place after those that are less
pub first_not_less : (low : ℕ) (ns : List ℕ) (b k n : ℕ) → IsRising low ns → slice_get ns k ≡ Some n → b ≤ length ns
    → ((j m : ℕ) → j < b → slice_get ns j ≡ Some m → m < n) → ((j m : ℕ) → b ≤ j → slice_get ns j ≡ Some m → n ≤ m) → b ≡ k
first_not_less low ns b k n r e within less more =
    elim (cases_eq b k) [
      | inl same ↦ same
      | inr other ↦ absurd (apart other)
    ]
  where
    got : (xs : List ℕ) (j : ℕ) → j < length xs → (m : ℕ) × (slice_get xs j ≡ Some m)
    got [] j h = absurd (omega (arith, h))
    got (x ∷ xs) zero h = (x, refl)
    got (x ∷ xs) (suc j) h = got xs j (omega (arith, h))

    apart : b ≢ k → ⊥
    apart other = elim (cases_lt k b) [
      | inl below ↦ omega (arith, less k n below e)
      | inr above ↦
          let next : b < k = omega (arith, above, other) in
          let m = got ns b (omega (arith, next, slice_get_within ns k n e)) in
          omega (arith, more b m.0 (omega arith) m.1, rising_less low ns b k m.0 n r next m.1 e)
    ]

-- as many stand before two places where so do as many in all, less so many others
pub same_rank : (place before new index : ℕ) → index ≤ place → before ≤ new → (place + before == new + index) ≡ (place - index == new - before)
same_rank place before new index le more =
    elim (cases_eq (place + before) (new + index)) [
      | inl same ↦ eq-eqb (place + before) (new + index) same ∙ sym (eq-eqb (place - index) (new - before) (omega (arith, same, le, more)))
      | inr other ↦ ne_eqb (place + before) (new + index) other ∙ sym (ne_eqb (place - index) (new - before) (λ e. other (omega (arith, e, le, more))))
    ]
