-- A filter shows the elements of its input that its matcher accepts, in their order.
use Rattle.std.specs.Prelude.{Bool, List, filter, length}
use Rattle.spec_value.specs.Tree.{Tree}
use Rattle.spec_lists.specs.Piece.{Piece, identity}
use Rattle.spec_views.specs.Chosen.{Choice, follow_chosen}

-- an element is shown where it is accepted, wherever it stands
abbrev pub by_value : (Tree → Bool) → Choice
by_value accepts position value = accepts value

abbrev pub filter_view : (Tree → Bool) → List Tree → List Tree
filter_view accepts xs = filter accepts xs

-- the change of a filter whose input changes by these pieces from these elements
abbrev pub filter_follow : (Tree → Bool) → List Tree → List Piece → List Piece
filter_follow accepts xs ps = follow_chosen (by_value accepts) (by_value accepts) xs ps

-- the change of a filter that gets another matcher
abbrev pub filter_change : (Tree → Bool) → (Tree → Bool) → List Tree → List Piece
filter_change before after xs =
    follow_chosen (by_value before) (by_value after) xs (identity (length xs))
