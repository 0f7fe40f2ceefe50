use Rattle.std.proofs.Common.{length, rules}
use Rattle.spec_plans.specs.Cycle.{IsFirstCycle}
use Rattle.gl_plan.proofs.Circles.{first_within}
use Rattle.gl_plan.proofs.depend.in_order.Goals as goal

pub named-requires : goal.named-requires
named-requires c =
    let first : IsFirstCycle c.args.edges.now c.in-Err-Cycle.cycle = search rules in
    first_within (length c.args.names.now) c.args.edges.now c.in-Err-Cycle.cycle c.as_slice.result.now c.requires.within first c.as_slice.ensures
