use Rattle.std.proofs.Common.{◌≡◌, ◌≤◌, ◌-◌, length}
use Rattle.gl_delta.specs.DependencyOrder.{Turning}
use Rattle.gl_delta.proofs.turn.turn.Given as goal

abbrev pub invariant-gaps : goal.invariant-gaps
invariant-gaps l = record {
  turning : Turning l.initial.colours.colours l.colours l.at;
  within : l.at ≤ length l.colours.colours;
  room : l.colours.room ≡ l.initial.colours.room;
}

abbrev pub decreases-gaps : goal.decreases-gaps
decreases-gaps l = length l.colours.colours - l.at
