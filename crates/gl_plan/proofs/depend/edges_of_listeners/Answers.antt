use Rattle.std.proofs.Common.{◌<◌, length, map, rules}
use Rattle.gl_lines.specs.declared.plan.ListenerDecl.{ListenerDecl}
use Rattle.spec_plans.specs.Plan.{edges_from}
use Rattle.gl_plan.proofs.Edges.{listeners_more}
use Rattle.gl_plan.proofs.depend.edges_of_listeners.Goals as goal

pub loop-i-preserved : goal.loop-i-preserved
loop-i-preserved c =
    let within : c.loop-i.i < length c.args.listeners.now = search rules in
    listeners_more c.args.listeners.now c.loop-i.i c.index-listeners-i.result c.loop-i.edges.items c.in_ok-edges.edges.items
    (edges_from 0 (map (λ (d : ListenerDecl). d.after) c.args.listeners.now)) within c.index-listeners-i.is c.in_ok-edges.ensures c.loop-i.invariant
