-- Where a position of a whole stands in the parts that it is joined of.
use Rattle.std.specs.Prelude.{◌≡◌, ◌+◌, ◌<◌, ◌≤◌, ℕ, List, [], ◌∷◌, sum, take, Option, Some, None, slice_get, refl}
use Rattle.std.proofs.Common.{arith}

-- the part at this index has the position, with so many of its elements before it
pub record StandsAt (lens : List ℕ) (position index within : ℕ) : Type 0 where
  pub len : ℕ
  pub is_len : slice_get lens index ≡ Some len
  pub inside : within < len
  pub position_is : position ≡ sum (take index lens) + within

-- where a position stands; nowhere exactly where it isn't below the whole length
abbrev pub IsLocated : List ℕ → ℕ → Option (ℕ × ℕ) → Type 0
IsLocated lens position None = sum lens ≤ position
IsLocated lens position (Some at) = StandsAt lens position at.0 at.1

-- in parts of two elements, of none and of three, the fourth position is the second one of the last part
fourth : IsLocated (2 ∷ 0 ∷ 3 ∷ []) 3 (Some (2, 1))
fourth = record { len = 3; is_len = refl; inside = omega arith; position_is = refl }
