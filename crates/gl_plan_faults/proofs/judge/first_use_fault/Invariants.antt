use Rattle.std.proofs.Common.{◌≡◌, drop}
use Rattle.spec_plans.specs.NameFaults.{first_fault, use_fault}
use Rattle.gl_plan_faults.proofs.judge.first_use_fault.Given as goal

abbrev pub invariant-loop-named : goal.invariant-loop-named
invariant-loop-named l = first_fault (use_fault l.known.lines.now l.need) (drop l.named-index l.listed) ≡ first_fault (use_fault l.known.lines.now l.need) l.listed
