-- What is told where a unique list gets another order.
use Rattle.std.specs.Prelude.{Bool, true, false}
use Rattle.spec_sorting.specs.Tree.{Tree}
use Rattle.spec_sorting.specs.Piece.{Piece, deleted, inserted}

-- an element that was shown goes, another one comes
abbrev pub turned : Bool → Tree → Piece
turned true v = deleted v
turned false v = inserted v
