use Rattle.std.proofs.Common.{◌≡◌, ◌+◌, ◌++◌, length, map}
use Rattle.spec_lists.specs.Piece.{old_len}
use Rattle.gl_delta.specs.Cells.{cells_rest}
use Rattle.gl_kernel.specs.Fates.{fate, edits_of}
use Rattle.gl_kernel.specs.Spread.{spread}
use Rattle.gl_source.specs.Kept.{itself}
use Rattle.gl_source.proofs.log.log_of.Given as goal

-- the edits so far and those that are left are the whole
abbrev pub invariant-cells : goal.invariant-cells
invariant-cells l = record {
  edits : l.log.items ++ edits_of l.position (map (fate itself) (spread (cells_rest l.cells))) ≡ edits_of 0 (map (fate itself) l.d.pieces);
  position : l.position + old_len (spread (cells_rest l.cells)) ≡ old_len l.d.pieces;
}

abbrev pub decreases-cells : goal.decreases-cells
decreases-cells l = length (cells_rest l.cells)
