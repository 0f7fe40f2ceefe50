-- What became of an old element.
use Rattle.std.specs.Prelude.{◌≡◌, ◌⊎◌, ℕ, List, Some, slice_get}
use Rattle.spec_lists.specs.Sides.{Item, plain, changed, lone}
use Rattle.gl_delta.specs.declared.cell.Old.{Old}
use Rattle.gl_delta.specs.declared.cell.Old.TheVariants.{Kept, Value}

-- The element at a place of the old side has an equal partner at that new place; or it has another partner or none, and
-- this is its value.
abbrev pub IsOldAt : List Item → ℕ → Old → Type 0
IsOldAt items position (Kept j) = slice_get items position ≡ Some (plain j)
IsOldAt items position (Value v) =
    (slice_get items position ≡ Some (lone v.now)) ⊎ ((j : ℕ)
    × (slice_get items position ≡ Some (changed j v.now)))
