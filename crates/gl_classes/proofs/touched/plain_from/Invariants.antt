use Rattle.std.proofs.Common.{◌≡◌, ◌+◌, ◌-◌, ◌≤◌, length}
use Rattle.gl_classes.specs.Touching.{RunsOn}
use Rattle.gl_classes.proofs.touched.plain_from.Given as goal

abbrev pub invariant-run : goal.invariant-run
invariant-run l = record {
  low : l.start ≤ l.place;
  at_is : l.at + l.start ≡ l.from + l.place;
  within : l.at ≤ length l.ranked;
  runs : RunsOn l.ranked l.from l.start (l.place - l.start);
}

abbrev pub decreases-run : goal.decreases-run
decreases-run l = l.end - l.place
