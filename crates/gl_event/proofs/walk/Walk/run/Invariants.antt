use Rattle.std.proofs.Common.{◌≡◌, ◌+◌, ◌≤◌, length}
use Rattle.gl_event.specs.Blocks.{run, run_end}
use Rattle.gl_event.specs.Changes.{changes_rest, IsFew}
use Rattle.gl_event.proofs.walk.Walk.run.Given as goal

abbrev pub invariant-loop-change : goal.invariant-loop-change
invariant-loop-change l = record {
  few : IsFew l.self;
  stands : l.at ≡ l.self.at;
  fits : l.count + length (changes_rest l.self) ≤ 4294967294;
  counted : l.count + run l.kind l.at (changes_rest l.self) ≡ run l.kind l.initial.self.at (changes_rest l.initial.self);
  end : run_end l.kind l.at (changes_rest l.self) ≡ run_end l.kind l.initial.self.at (changes_rest l.initial.self);
}

abbrev pub decreases-loop-change : goal.decreases-loop-change
decreases-loop-change l = length (changes_rest l.self)
