use Rattle.std.proofs.Common.{◌≡◌, drop}
use Rattle.spec_plans.specs.NameFaults.{first_fault}
use Rattle.gl_plan_faults.specs.Passed.{again_fault}
use Rattle.gl_plan_faults.proofs.judge.first_again_fault.Given as goal

abbrev pub invariant-loop-named : goal.invariant-loop-named
invariant-loop-named l = first_fault (again_fault l.passed.undone) (drop l.named-index l.listed) ≡ first_fault (again_fault l.passed.undone) l.listed
