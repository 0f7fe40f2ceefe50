use Rattle.std.proofs.Common.{◌≡◌, ◌++◌, ◌+◌, ◌≤◌, length, drop}
use Rattle.gl_delta.specs.Cells.{cells_rest}
use Rattle.gl_event.specs.Replay.{applied_cells, old_count}
use Rattle.gl_event.proofs.replaying.applied.Given as goal

abbrev pub invariant-loop-cell : goal.invariant-loop-cell
invariant-loop-cell l = record {
  left : l.made ++ applied_cells (cells_rest l.cells) (drop l.from l.values) ≡ applied_cells (cells_rest l.initial.cells) l.values;
  within : l.from + old_count (cells_rest l.cells) ≤ length l.values;
}

abbrev pub decreases-loop-cell : goal.decreases-loop-cell
decreases-loop-cell l = length (cells_rest l.cells)
