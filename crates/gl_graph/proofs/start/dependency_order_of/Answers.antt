use Rattle.std.proofs.Common.{◌∙◌, length, ap, sym, subst}
use Rattle.spec_states.specs.State.{edges_of}
use Rattle.gl_graph.specs.Build.{AreReady, opened_lists}
use Rattle.gl_graph.specs.Positions.{AreBelow, ArePositions}
use Rattle.gl_graph.proofs.Starts.{plan_is_order, ready_of}
use Rattle.gl_graph.proofs.Dispatch.{order_below, order_distinct}
use Rattle.gl_graph.proofs.start.dependency_order_of.Goals as goal

pub positions_in-requires-clause-whole : goal.positions_in-requires-clause-whole
positions_in-requires-clause-whole c =
    let p = c.args.plan.now in
    let lists = c.lists-lists.ensures in
    (plan_is_order p c.list_order-order.result.now lists.plan c.list_order-order.ensures).whole ∙ ap length (sym lists.lists)

pub positions_in-requires-clause-below : goal.positions_in-requires-clause-below
positions_in-requires-clause-below c =
    let p = c.args.plan.now in
    let lists = c.lists-lists.ensures in
    let order = c.list_order-order.result.now in
    subst (λ n. AreBelow n order) (ap length (sym lists.lists))
    (order_below (length p.lists) (edges_of (opened_lists p.lists)) order (plan_is_order p order lists.plan c.list_order-order.ensures).prefix)

pub positions_in-requires-clause-distinct : goal.positions_in-requires-clause-distinct
positions_in-requires-clause-distinct c =
    let p = c.args.plan.now in
    let order = c.list_order-order.result.now in
    order_distinct (length p.lists) (edges_of (opened_lists p.lists)) order (plan_is_order p order c.lists-lists.ensures.plan c.list_order-order.ensures).prefix

pub returns-clause-ready : goal.returns-clause-ready
returns-clause-ready c =
    let p = c.args.plan.now in
    let lists = c.lists-lists.ensures in
    let order = c.list_order-order.result.now in
    let positions = c.in_ok-positions.positions.items in
    let ready : AreReady p.limit p.lists positions order =
    ready_of p positions order lists.plan c.list_order-order.ensures (c.in_ok-positions.ensures.len ∙ ap length lists.lists)
    (subst (λ n. ArePositions positions order n) (ap length lists.lists) c.in_ok-positions.ensures.positions) in
    subst (λ n. AreReady n c.lists-lists.result.now positions order) (sym c.limit-limit.ensures) (subst (λ ds. AreReady p.limit ds positions order) (sym lists.lists) ready)
