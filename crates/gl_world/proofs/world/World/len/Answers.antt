use Rattle.std.proofs.Common.{◌≡◌, ◌∙◌, ◌≤◌, length, ap, arith}
use Rattle.spec_states.specs.Shown.{shown}
use Rattle.spec_runs.proofs.Within.{shown_few}
use Rattle.gl_graph.specs.Graph.{state_of}
use Rattle.gl_world.proofs.Entries.{Inside, world_lists}
use Rattle.gl_world.proofs.world.World.len.Goals as goal

pub returns-clause-few : goal.returns-clause-few
returns-clause-few g c =
    let w = c.self.inside in
    let plan : w.plan ≡ c.args.self.now.plan = ap (λ h. h.plan) c.self.view_is in
    let i : Inside = record { plan = w.plan; order = w.log.order.items; graph = w.graph; replies = w.log.replies.items; teller = w.teller; taken = w.taken.items } in
    let lists : length (state_of w.graph) ≡ length w.plan.lists = world_lists i c.self.invariant in
    let many : length w.plan.lists ≡ length c.args.self.now.plan.lists = ap (λ p. length p.lists) plan in
    let most : w.graph.limit ≡ c.args.self.now.plan.limit = c.self.invariant.limit ∙ ap (λ p. p.limit) plan in
    let few : length (shown (state_of w.graph) c.args.list) ≤ w.graph.limit =
    shown_few w.graph.limit (state_of w.graph) c.args.list c.law.ensures.sound.ordered c.law.ensures.within
    (omega (arith, lists, many, c.requires)) in
    omega (arith, few, most, c.len.ensures)
