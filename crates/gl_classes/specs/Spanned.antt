-- The sorted places of a class.
use Rattle.std.specs.Prelude.{◌≡◌, ◌-◌, ◌≤◌, ℕ, List, length, take, drop, Some, slice_get}
use Rattle.spec_classes.specs.Classes.{Class}

-- the members of a class stand at the sorted places from one on and before another
pub record IsSpanOf (cs : List Class) (class : ℕ) (places : List ℕ) (start end : ℕ) : Type 0 where
  pub starts : start ≤ end
  pub ends : end ≤ length places
  pub members : slice_get cs class ≡ Some (take (end - start) (drop start places))
