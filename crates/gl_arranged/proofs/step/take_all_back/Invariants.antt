use Rattle.std.proofs.Common.{◌≡◌, vec_len}
use Rattle.gl_arranged.specs.Steps.{all_taken_back, CanTakeAllBack}
use Rattle.gl_arranged.proofs.step.take_all_back.Given as goal

abbrev pub invariant-steps : goal.invariant-steps
invariant-steps l = record {
  back : all_taken_back l.steps.items l.tree ≡ all_taken_back l.initial.steps.items l.initial.tree;
  can : CanTakeAllBack l.steps.items l.tree;
}

abbrev pub decreases-steps : goal.decreases-steps
decreases-steps l = vec_len l.steps
