-- Elements of which a delta has the old value.
use Rattle.std.specs.Prelude.{◌≡◌, ◌<◌, ℕ, Some, slice_get}
use Rattle.spec_sorting.specs.Delta.{Delta}
use Rattle.spec_sorting.specs.Piece.{old_len}
use Rattle.spec_sorting.specs.Sides.{sides, plain}

pub record IsOldValue (d : Delta) (i : ℕ) : Type 0 where
  pub within : i < old_len d
  pub changed : (j : ℕ) → slice_get (sides d).old i ≡ Some (plain j) → ⊥
