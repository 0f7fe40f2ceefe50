use Rattle.std.proofs.Common.{◌≡◌, take, drop}
use Rattle.spec_plans.specs.Along.{first_after}
use Rattle.spec_plans.specs.NameFaults.{naming, first_misnamed}
use Rattle.gl_plan_faults.specs.Passed.{HasPassed}
use Rattle.gl_plan_faults.proofs.judging.first_misnamed.Given as goal

-- what is said of the lines that are left is said of all
abbrev pub invariant-loop-line : goal.invariant-loop-line
invariant-loop-line l = record {
  place : l.passed.place ≡ l.line-index;
  passed : HasPassed l.passed l.known.lines.now;
  left : first_after (naming l.known.lines.now) (take l.line-index l.known.lines.now) (drop l.line-index l.known.lines.now) ≡ first_misnamed l.known.lines.now;
}
