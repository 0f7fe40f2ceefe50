use Rattle.std.proofs.Common.{◌≡◌, ◌+◌, ◌*◌, ◌≤◌, length}
use Rattle.gl_joined.specs.Piece.{new_len}
use Rattle.spec_lang.specs.Kids.{kids}
use Rattle.gl_delta.specs.Cells.{cells_rest}
use Rattle.gl_kernel.specs.Spread.{spread}
use Rattle.gl_collection.specs.Told.{gained, lost}
use Rattle.gl_collection.proofs.count.new_total.Given as goal

-- what was weighed and what is left are the whole; each new element adds less than a length
abbrev pub invariant-cells : goal.invariant-cells
invariant-cells l = record {
  gained : l.balance.gained + gained (kids l.model) (spread (cells_rest l.cells)) ≡ gained (kids l.model) l.d.pieces;
  lost : l.balance.lost + lost (kids l.model) (spread (cells_rest l.cells)) ≡ lost (kids l.model) l.d.pieces;
  few : l.balance.gained + new_len (spread (cells_rest l.cells)) * 18446744073709551616 ≤ new_len l.d.pieces * 18446744073709551616;
}

abbrev pub decreases-cells : goal.decreases-cells
decreases-cells l = length (cells_rest l.cells)
