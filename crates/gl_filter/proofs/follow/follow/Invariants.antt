use Rattle.std.proofs.Common.{◌≡◌, ◌+◌, ◌++◌, length, drop}
use Rattle.spec_views.specs.Piece.{old_len, normal}
use Rattle.spec_views.specs.Matcher.{accepts}
use Rattle.gl_delta.specs.Cells.{cells_rest}
use Rattle.gl_kernel.specs.Fates.{edits_of}
use Rattle.gl_kernel.specs.Spread.{spread}
use Rattle.gl_filter.specs.Told.{told_marks, fates, asked}
use Rattle.gl_filter.proofs.follow.follow.Given as goal

-- what is told so far and what is left to tell is the whole, and so with the edits and with the questions
abbrev pub invariant-loop-cell : goal.invariant-loop-cell
invariant-loop-cell g l = record {
  told : normal (l.plan.out.pieces ++ told_marks (accepts l.matcher) (drop l.plan.position l.marks.shown) (spread (cells_rest l.cells))) ≡ normal (told_marks (accepts l.matcher) l.marks.shown l.d.pieces);
  edits : l.plan.log.items ++ edits_of l.plan.position (fates (accepts l.matcher) (drop l.plan.position l.marks.shown) (spread (cells_rest l.cells))) ≡ edits_of 0 (fates (accepts l.matcher) l.marks.shown l.d.pieces);
  position : l.plan.position + old_len (spread (cells_rest l.cells)) ≡ length l.marks.shown;
  counted : l.steps + asked (spread (cells_rest l.cells)) ≡ l.initial.steps + asked l.d.pieces;
}

abbrev pub decreases-loop-cell : goal.decreases-loop-cell
decreases-loop-cell g l = length (cells_rest l.cells)
