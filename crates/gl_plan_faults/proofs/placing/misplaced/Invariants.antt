use Rattle.std.proofs.Common.{◌≡◌, take, drop}
use Rattle.spec_plans.specs.Along.{first_after}
use Rattle.spec_plans.specs.Place.{misplacing, first_misplaced}
use Rattle.gl_plan_faults.specs.Before.{StandsAfter}
use Rattle.gl_plan_faults.proofs.placing.misplaced.Given as goal

-- what is said of the lines that are left is said of all
abbrev pub invariant-loop-line : goal.invariant-loop-line
invariant-loop-line l = record {
  stands : StandsAfter l.before (take l.line-index l.lines);
  left : first_after misplacing (take l.line-index l.lines) (drop l.line-index l.lines) ≡ first_misplaced l.lines;
}
