use Rattle.std.proofs.Common.{◌≡◌, ◌++◌, take, map}
use Rattle.spec_lists.specs.Piece.{identity, inserted}
use Rattle.gl_source.proofs.telling.append.Given as goal

abbrev pub invariant-values : goal.invariant-values
invariant-values l = l.d.pieces ≡ identity l.len ++ map inserted (take l.index l.values)
