use Rattle.std.proofs.Common.{◌≡◌, ◌≤◌, length, drop}
use Rattle.gl_classes.specs.Firsts.{all_edits}
use Rattle.gl_classes.proofs.firsts.edits.Given as goal

abbrev pub invariant-steps : goal.invariant-steps
invariant-steps l = record {
  within : l.left ≤ length l.steps;
  log : l.log.items ≡ all_edits (drop l.left l.steps);
}

abbrev pub decreases-steps : goal.decreases-steps
decreases-steps l = l.left
