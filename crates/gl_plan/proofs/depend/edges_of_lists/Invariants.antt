use Rattle.std.proofs.Common.{◌≡◌, ◌++◌, map, drop}
use Rattle.spec_plans.specs.Plan.{inputs_of, edges_from}
use Rattle.gl_plan.proofs.depend.edges_of_lists.Given as goal

-- what is left, after what there is, is the whole
abbrev pub invariant-loop-i : goal.invariant-loop-i
invariant-loop-i l = l.edges.items ++ edges_from l.i (map (λ d. inputs_of d.kind) (drop l.i l.lists)) ≡ edges_from 0 (map (λ d. inputs_of d.kind) l.lists)
