use Rattle.std.proofs.Common.{◌≡◌, take}
use Rattle.spec_plans.specs.Making.{numbers}
use Rattle.gl_plan.proofs.part.numbers.Given as goal

abbrev pub invariant-loop-named : goal.invariant-loop-named
invariant-loop-named l = l.found ≡ numbers l.names (take l.named-index l.listed)
