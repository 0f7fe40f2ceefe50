-- What is told of elements that have no partner.
use Rattle.spec_value.specs.Tree.{Tree}
use Rattle.spec_lists.specs.Piece.{Piece, deleted, inserted}
use Rattle.gl_joined.specs.declared.telling.Lone.{Lone}
use Rattle.gl_joined.specs.declared.telling.Lone.TheVariants.{Deleted, Inserted}

-- the piece of an element that is deleted, or inserted
abbrev pub lone_piece : Lone → Tree → Piece
lone_piece Deleted = deleted
lone_piece Inserted = inserted
