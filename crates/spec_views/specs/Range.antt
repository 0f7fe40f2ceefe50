-- A range shows a slice of its input, whose ends count from the head or from the tail.
use Rattle.std.specs.Prelude.{ℕ, ◌-◌, ◌&&◌, List, take, drop, length, nat_lt, nat_le, min}
use Rattle.spec_value.specs.Tree.{Tree}
use Rattle.spec_lists.specs.Piece.{Piece, identity, new_len}
use Rattle.spec_lang.specs.declared.Bounds.{Bounds}
use Rattle.spec_lang.specs.declared.Bounds.TheVariants.{Head, Tail, Middle}
use Rattle.spec_views.specs.Chosen.{Choice, follow_chosen}

-- the place of the first element that is shown of n, and of the first after it that isn't; both at most n
abbrev pub start_of : Bounds → ℕ → ℕ
start_of (Head a b) n = min a n
start_of (Tail a b) n = n - a
start_of (Middle a b) n = min a n

abbrev pub end_of : Bounds → ℕ → ℕ
end_of (Head a b) n = min b n
end_of (Tail a b) n = n - b
end_of (Middle a b) n = n - b

-- an end below the start shows nothing
abbrev pub range_view : Bounds → List Tree → List Tree
range_view bounds xs =
    take (end_of bounds (length xs) - start_of bounds (length xs))
    (drop (start_of bounds (length xs)) xs)

-- an element is shown where it stands in the slice of n elements
abbrev pub by_position : Bounds → ℕ → Choice
by_position bounds n position value =
    nat_le (start_of bounds n) position && nat_lt position (end_of bounds n)

-- the change of a range whose input changes by these pieces from these elements
abbrev pub range_follow : Bounds → List Tree → List Piece → List Piece
range_follow bounds xs ps =
    follow_chosen (by_position bounds (length xs)) (by_position bounds (new_len ps)) xs ps

-- the change of a range that gets other bounds
abbrev pub range_change : Bounds → Bounds → List Tree → List Piece
range_change before after xs =
    follow_chosen (by_position before (length xs)) (by_position after (length xs)) xs
    (identity (length xs))
