use Rattle.std.proofs.Common.{◌≡◌, ◌++◌, drop}
use Rattle.spec_plans.specs.Plan.{proxies_from}
use Rattle.gl_plan.proofs.making.proxies.Given as goal

-- what is left, after what there is, is the whole
abbrev pub invariant-loop-i : goal.invariant-loop-i
invariant-loop-i l = l.found.items ++ proxies_from l.i (drop l.i l.lists) ≡ proxies_from 0 l.lists
