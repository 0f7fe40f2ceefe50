use Rattle.std.proofs.Common.{◌≡◌, ◌+◌, ◌++◌, length, drop, map}
use Rattle.gl_joined.specs.Piece.{old_len, normal}
use Rattle.spec_lang.specs.Kids.{kids}
use Rattle.gl_delta.specs.Cells.{cells_rest}
use Rattle.gl_kernel.specs.Fates.{fate, edits_of}
use Rattle.gl_kernel.specs.Spread.{spread}
use Rattle.gl_collection.specs.Told.{child_len, told_children}
use Rattle.gl_collection.proofs.follow.follow.Given as goal

-- what is told so far and what is left to tell is the whole, and so with the edits
abbrev pub invariant-cells : goal.invariant-cells
invariant-cells l = record {
  told : normal (l.plan.out.pieces ++ told_children (kids l.model) (drop l.plan.position l.lens.lens) (spread (cells_rest l.cells))) ≡ normal (told_children (kids l.model) l.lens.lens l.d.pieces);
  edits : l.plan.log.items ++ edits_of l.plan.position (map (fate (child_len (kids l.model))) (spread (cells_rest l.cells))) ≡ edits_of 0 (map (fate (child_len (kids l.model))) l.d.pieces);
  position : l.plan.position + old_len (spread (cells_rest l.cells)) ≡ length l.lens.lens;
}

abbrev pub decreases-cells : goal.decreases-cells
decreases-cells l = length (cells_rest l.cells)
