use Rattle.std.proofs.Common.{◌≡◌, ◌++◌, length}
use Rattle.gl_event.specs.Changes.{changes_rest, IsFew}
use Rattle.spec_reports.specs.Event.{event_text}
use Rattle.gl_report.specs.Told.{changes_left}
use Rattle.gl_report.proofs.event.add_event.Given as goal

-- what is written and what is left are the whole
abbrev pub invariant-loop-change : goal.invariant-loop-change
invariant-loop-change l = record {
  whole : l.out ++ changes_left l.first (changes_rest l.walk) ≡ l.initial.out ++ event_text l.event.pieces;
  few : IsFew l.walk;
}

abbrev pub decreases-loop-change : goal.decreases-loop-change
decreases-loop-change l = length (changes_rest l.walk)
