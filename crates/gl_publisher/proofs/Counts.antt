-- Steps of the loops over counts.
use Rattle.std.proofs.Common.{◌≡◌, ℕ, ◌+◌, ◌<◌, ◌≤◌, ◌==◌, Bool, cond, List, length, get_or, take, slice_index, count_by, sym, ◌∙◌, arith}
use Rattle.std.proofs.lemmas.List.{get_or_default, length-take-le}
use Rattle.std.proofs.lemmas.List.Sums.{count_by-le-length, sum_by_more_le}
use Rattle.spec_order.proofs.Members.{hit_same}
use Rattle.gl_publisher.specs.Waiting.{ends_with}

-- a count of some of the items so far has room for one more
pub count_fits : {X : Type 0} (p : X → Bool) (xs : List X) (counts : List ℕ) (i a r : ℕ) → i < length xs → a < length counts → r ≡ get_or counts a r → slice_index counts a ≡ count_by p (take i xs) → r ≤ i
count_fits p xs counts i a r l m read e =
    omega (arith, read ∙ get_or_default counts a r 0 m, e, count_by-le-length p (take i xs), length-take-le i xs (omega arith))

-- a count from which fewer were taken than there are is not used up
pub count_left : (pairs : List (ℕ × ℕ)) (counts : List ℕ) (i a r before : ℕ) (d : ℕ × ℕ) → i < length pairs → a < length counts → a ≡ (get_or pairs i d).1 → r ≡ get_or counts a r → slice_index counts a + ends_with (take i pairs) a ≡ before → ends_with pairs a ≤ before → 1 ≤ r
count_left pairs counts i a r before d l m a_is read e enough =
    let here = hit_same (get_or pairs i d).1 a (sym a_is) in
    let more = sum_by_more_le (λ p. cond (p.1 == a) 1 0) pairs i d l in
    omega (arith, read ∙ get_or_default counts a r 0 m)
