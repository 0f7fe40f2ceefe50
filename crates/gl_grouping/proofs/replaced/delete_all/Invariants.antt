use Rattle.std.proofs.Common.{◌≡◌, ◌++◌, map, drop}
use Rattle.spec_sorting.specs.Piece.{deleted, normal}
use Rattle.gl_grouping.proofs.replaced.delete_all.Given as goal

-- what is told so far and what is left to tell is the whole
abbrev pub invariant-loop-place : goal.invariant-loop-place
invariant-loop-place l = normal (l.out.pieces ++ map deleted (drop l.place l.groups.values)) ≡ normal (l.fn.out.pieces ++ map deleted l.groups.values)
