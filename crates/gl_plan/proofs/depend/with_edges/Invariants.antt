use Rattle.std.proofs.Common.{◌≡◌, ◌++◌, map, take}
use Rattle.gl_plan.proofs.depend.with_edges.Given as goal

abbrev pub invariant-loop-other : goal.invariant-loop-other
invariant-loop-other l = l.edges.items ≡ l.initial.edges.items ++ map (λ other. (l.item, other)) (take l.other-index l.needed)
