use Rattle.std.proofs.Common.{◌≡◌, ◌++◌, length}
use Rattle.gl_joined.specs.Piece.{normal}
use Rattle.gl_delta.specs.Cells.{cells_rest}
use Rattle.gl_kernel.specs.Spread.{spread}
use Rattle.gl_composite.proofs.telling.tell_change.Given as goal

-- what is told so far and what is left to tell is the whole
abbrev pub invariant-cells : goal.invariant-cells
invariant-cells l = normal (l.out.pieces ++ spread (cells_rest l.cells)) ≡ normal (l.fn.out.pieces ++ l.d.pieces)

abbrev pub decreases-cells : goal.decreases-cells
decreases-cells l = length (cells_rest l.cells)
