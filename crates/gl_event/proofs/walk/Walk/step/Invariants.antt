use Rattle.std.proofs.Common.{◌≡◌, length}
use Rattle.gl_delta.specs.Cells.{cells_rest}
use Rattle.gl_event.specs.Changes.{changes_rest, IsFew}
use Rattle.gl_event.proofs.walk.Walk.step.Given as goal

abbrev pub invariant-loop-cell : goal.invariant-loop-cell
invariant-loop-cell l = record {
  left : changes_rest l.self ≡ changes_rest l.initial.self;
  few : IsFew l.self;
}

abbrev pub decreases-loop-cell : goal.decreases-loop-cell
decreases-loop-cell l = length (cells_rest l.self.cells)
