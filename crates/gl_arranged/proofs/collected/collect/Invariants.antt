use Rattle.std.proofs.Common.{◌≡◌, ◌+◌, length, map}
use Rattle.spec_sorting.specs.Piece.{inverted, old_len, new_len}
use Rattle.spec_sorting.specs.Sides.{olds}
use Rattle.gl_delta.specs.Cells.{cells_rest}
use Rattle.gl_kernel.specs.Spread.{spread}
use Rattle.gl_arranged.specs.Changes.{changed_of}
use Rattle.gl_arranged.proofs.Notes.{Reads}
use Rattle.gl_arranged.proofs.collected.collect.Given as goal

-- what was read and what is left are the whole
abbrev pub invariant-loop-cell : goal.invariant-loop-cell
invariant-loop-cell l = record {
  reads : Reads (changed_of 0 (olds 0 l.d.pieces)) (changed_of 0 (olds 0 (map inverted l.d.pieces))) l.found (spread (cells_rest l.cells));
  olds : l.found.olds + old_len (spread (cells_rest l.cells)) ≡ old_len l.d.pieces;
  news : l.found.news + new_len (spread (cells_rest l.cells)) ≡ new_len l.d.pieces;
}

abbrev pub decreases-loop-cell : goal.decreases-loop-cell
decreases-loop-cell l = length (cells_rest l.cells)
