use Rattle.std.proofs.Common.{◌≡◌, ◌≤◌, ◌<◌, ◌∙◌, length, ap, sym, subst, arith}
use Rattle.std.specs.Prelude.{Some, slice_get, slice_index}
use Rattle.spec_states.specs.State.{own_at}
use Rattle.spec_states.proofs.Views.{own_past}
use Rattle.gl_graph.specs.Nodes.{state_of as state_in}
use Rattle.gl_graph.specs.Graph.{Kept, state_of}
use Rattle.gl_graph.specs.Holds.{hold_of}
use Rattle.gl_graph.proofs.Inputs.{long_state}
use Rattle.gl_graph.proofs.Rollbacks.{node_own}
use Rattle.gl_graph.proofs.graph.Graph.hold.Goals as goal

pub returns-then-list-len : goal.returns-then-list-len
returns-then-list-len c =
    let k = c.self.inside in
    let past : length (state_in k.nodes.items k.positions.items) ≤ c.args.list = omega (arith, c.len.ensures, c.if-list-len.true, long_state k.nodes.items k.positions.items) in
    ap hold_of (sym (own_past (state_in k.nodes.items k.positions.items) c.args.list past)) ∙ ap (λ (m : Kept). hold_of (own_at (state_of m) c.args.list)) c.self.view_is

pub returns : goal.returns
returns c =
    let k = c.self.inside in
    let node = c.node_of.result.now in
    let within : c.args.list < length k.positions.items = omega (arith, c.len.ensures, c.if-list-len.false) in
    let there : slice_get k.nodes.items (slice_index k.positions.items c.args.list) ≡ Some node =
    subst (λ ns. slice_get ns (slice_index k.positions.items c.args.list) ≡ Some node) c.deref.ensures.value
    (subst (λ ps. slice_get c.deref.result.now (slice_index ps c.args.list) ≡ Some node) c.deref-2.ensures.value c.node_of.ensures.node) in
    c.hold.ensures
    ∙ (ap hold_of (sym (node_own k.nodes.items k.positions.items c.args.list node within there)) ∙ ap (λ (m : Kept). hold_of (own_at (state_of m) c.args.list)) c.self.view_is)
