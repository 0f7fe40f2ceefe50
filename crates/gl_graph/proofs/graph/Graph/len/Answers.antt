use Rattle.std.proofs.Common.{◌≤◌, ◌∙◌, length, ap, sym, subst, arith}
use Rattle.spec_states.specs.Shown.{shown}
use Rattle.gl_graph.specs.Nodes.{AreSettled}
use Rattle.gl_graph.specs.Graph.{Kept, state_of}
use Rattle.gl_graph.proofs.Prefixes.{past_shows}
use Rattle.gl_graph.proofs.graph.Graph.len.Goals as goal

pub returns-then-list-len : goal.returns-then-list-len
returns-then-list-len c =
    let past : length c.self.inside.positions.items ≤ c.args.list = omega (arith, c.len.ensures, c.if-list-len.true) in
    let none = past_shows c.self.inside.nodes.items c.self.inside.positions.items c.args.list past in
    ap length (sym none) ∙ ap (λ (k : Kept). length (shown (state_of k) c.args.list)) c.self.view_is

pub shown_len-requires-clause-settled : goal.shown_len-requires-clause-settled
shown_len-requires-clause-settled c =
    subst (λ ns. AreSettled ns c.deref-2.result.now) (sym c.deref.ensures.value)
    (subst (λ ps. AreSettled c.self.inside.nodes.items ps) (sym c.deref-2.ensures.value) c.self.invariant.settled)
