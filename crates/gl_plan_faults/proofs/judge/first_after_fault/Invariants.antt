use Rattle.std.proofs.Common.{◌≡◌, drop}
use Rattle.spec_plans.specs.NameFaults.{first_fault, after_fault}
use Rattle.gl_plan_faults.proofs.judge.first_after_fault.Given as goal

abbrev pub invariant-loop-named : goal.invariant-loop-named
invariant-loop-named l = first_fault (after_fault l.known.lines.now) (drop l.named-index l.listed) ≡ first_fault (after_fault l.known.lines.now) l.listed
