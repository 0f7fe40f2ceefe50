use Rattle.std.proofs.Common.{◌≡◌, ◌+◌, ◌++◌, length}
use Rattle.spec_views.specs.Piece.{old_len, new_len, normal}
use Rattle.gl_delta.specs.Cells.{cells_rest}
use Rattle.gl_kernel.specs.Spread.{spread}
use Rattle.gl_range.specs.Told.{told_in}
use Rattle.gl_range.proofs.follow.follow.Given as goal

-- what is told so far and what is left to tell is the whole, and so with the elements of both lists
abbrev pub invariant-loop-cell : goal.invariant-loop-cell
invariant-loop-cell g l = record {
  told : normal (l.walk.out.pieces ++ told_in (g.S.Shelf.items l.input) l.slices l.walk.old_position l.walk.new_position (spread (cells_rest l.cells)))
      ≡ normal (told_in (g.S.Shelf.items l.input) l.slices 0 0 l.d.pieces);
  olds : l.walk.old_position + old_len (spread (cells_rest l.cells)) ≡ old_len l.d.pieces;
  news : l.walk.new_position + new_len (spread (cells_rest l.cells)) ≡ new_len l.d.pieces;
}

abbrev pub decreases-loop-cell : goal.decreases-loop-cell
decreases-loop-cell g l = length (cells_rest l.cells)
