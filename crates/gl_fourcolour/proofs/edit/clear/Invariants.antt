use Rattle.gl_fourcolour.specs.Edits.{Clearing}
use Rattle.gl_fourcolour.proofs.edit.clear.Given as goal

abbrev pub invariant-loop-left : goal.invariant-loop-left
invariant-loop-left g l = Clearing g.row.C l.initial.row l.row l.at l.n l.left

abbrev pub decreases-loop-left : goal.decreases-loop-left
decreases-loop-left g l = l.left
