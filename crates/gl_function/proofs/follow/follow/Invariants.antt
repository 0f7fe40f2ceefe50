use Rattle.std.proofs.Common.{◌≡◌, ◌+◌, ◌++◌, length, map}
use Rattle.spec_views.specs.Piece.{old_len, normal}
use Rattle.spec_lang.specs.Func.{eval}
use Rattle.gl_delta.specs.Cells.{cells_rest}
use Rattle.gl_kernel.specs.Fates.{fate, edits_of}
use Rattle.gl_kernel.specs.Spread.{spread}
use Rattle.gl_function.specs.Told.{told_results}
use Rattle.gl_function.proofs.follow.follow.Given as goal

-- what is told so far and what is left to tell is the whole, and so with the edits
abbrev pub invariant-loop-cell : goal.invariant-loop-cell
invariant-loop-cell l = record {
  told : normal (l.plan.out.pieces ++ told_results (eval l.func) l.results.values l.plan.position (spread (cells_rest l.cells))) ≡ normal (told_results (eval l.func) l.results.values 0 l.d.pieces);
  edits : l.plan.log.items ++ edits_of l.plan.position (map (fate (eval l.func)) (spread (cells_rest l.cells))) ≡ edits_of 0 (map (fate (eval l.func)) l.d.pieces);
  position : l.plan.position + old_len (spread (cells_rest l.cells)) ≡ length l.results.values;
}

abbrev pub decreases-loop-cell : goal.decreases-loop-cell
decreases-loop-cell l = length (cells_rest l.cells)
