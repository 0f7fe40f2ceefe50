use Rattle.std.proofs.Common.{◌≡◌, ◌++◌, map, drop}
use Rattle.spec_plans.specs.Plan.{edges_from}
use Rattle.gl_plan.proofs.depend.edges_of_listeners.Given as goal

-- what is left, after what there is, is the whole
abbrev pub invariant-loop-i : goal.invariant-loop-i
invariant-loop-i l = l.edges.items ++ edges_from l.i (map (λ d. d.after) (drop l.i l.listeners)) ≡ edges_from 0 (map (λ d. d.after) l.listeners)
