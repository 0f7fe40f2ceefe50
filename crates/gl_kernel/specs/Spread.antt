-- The pieces that cells count, one after another.
use Rattle.std.specs.Prelude.{List, [], ◌∷◌, ◌++◌}
use Rattle.spec_lists.specs.Piece.{Piece}
use Rattle.spec_lists.specs.Cells.{Cell, pieces_in}

abbrev pub spread : List Cell → List Piece
spread [] = []
spread (c ∷ cs) = pieces_in c ++ spread cs
