use Rattle.std.proofs.Common.{◌≡◌, take, map}
use Rattle.spec_lists.specs.Piece.{deleted}
use Rattle.gl_source.proofs.telling.clear.Given as goal

abbrev pub invariant-positions : goal.invariant-positions
invariant-positions l = l.d.pieces ≡ map deleted (take l.position l.list.values)
