use Rattle.std.proofs.Common.{◌≡◌, ◌++◌}
use Rattle.gl_delta.specs.Cells.{cells_rest}
use Rattle.gl_delta.specs.Pieces.{pieces}
use Rattle.gl_delta.proofs.CellRuns.{pieces_of_cells}
use Rattle.gl_delta.proofs.pieces.Pieces.copy.Given as goal

-- what was copied and what is left are the whole
abbrev pub invariant-copies : goal.invariant-copies
invariant-copies l = pieces l.own ++ pieces_of_cells (cells_rest l.cell-iterator) ≡ pieces l.self
