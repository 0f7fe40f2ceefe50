use Rattle.std.proofs.Common.{◌≡◌, ◌∙◌, None, rules, ap, subst}
use Rattle.spec_states.specs.Opening.{opening}
use Rattle.spec_states.specs.Step.{too_long}
use Rattle.gl_graph.specs.Build.{IsReason, opened_lists}
use Rattle.gl_graph.proofs.graph.Graph.build.Goals as goal

pub returns-in_err-nodes-clause-fault : goal.returns-in_err-nodes-clause-fault
returns-in_err-nodes-clause-fault c =
    let plan = c.args.plan.now in
    let fault = c.in_err-nodes.field-0.0 in
    let reason : IsReason plan.limit (opening plan) fault =
    subst (λ limit. IsReason limit (opened_lists plan.lists) fault) c.in_ok-dependency_order.ensures.limit
    (subst (λ lists. IsReason c.in_ok-dependency_order.dependency_order.limit (opened_lists lists) fault) c.in_ok-dependency_order.ensures.lists c.in_err-nodes.ensures.fault) in
    search rules

pub returns-clause-state : goal.returns-clause-state
returns-clause-state c = c.in_ok-nodes.ensures.open.state_is ∙ ap opened_lists c.in_ok-dependency_order.ensures.lists

pub returns-clause-within : goal.returns-clause-within
returns-clause-within c =
    let plan = c.args.plan.now in
    subst (λ limit. too_long limit (opened_lists plan.lists) ≡ None) c.in_ok-dependency_order.ensures.limit
    (subst (λ lists. too_long c.in_ok-dependency_order.dependency_order.limit (opened_lists lists) ≡ None) c.in_ok-dependency_order.ensures.lists c.in_ok-nodes.ensures.open.few)
