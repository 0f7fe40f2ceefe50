use Rattle.std.proofs.Common.{◌≡◌, take}
use Rattle.spec_plans.specs.Cycles.{names_of}
use Rattle.gl_plan.proofs.depend.named.Given as goal

abbrev pub invariant-loop-number : goal.invariant-loop-number
invariant-loop-number l = l.found.items ≡ names_of l.names (take l.number-index l.numbers)
