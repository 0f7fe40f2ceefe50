use Rattle.std.proofs.Common.{◌≡◌, ◌<◌, take, ap, sym, subst, arith}
use Rattle.gl_graph.specs.declared.node.Node.{Node}
use Rattle.gl_graph.specs.Nodes.{OnInput, IsPlaced, AreSettled}
use Rattle.gl_graph.specs.Spread.{shown_len_at}
use Rattle.gl_graph.proofs.Standing.{same_node, index_at, later_at, len_here}
use Rattle.gl_graph.proofs.spread.short.Goals as goal

pub len_of-len-requires-clause-settled : goal.len_of-len-requires-clause-settled
len_of-len-requires-clause-settled c =
    subst (λ ns. AreSettled (take c.args.position ns) c.args.positions.now) (sym c.deref.ensures.value) c.requires.stand.settled

pub len_of-len-requires-clause-later : goal.len_of-len-requires-clause-later
len_of-len-requires-clause-later c =
    let node = c.index-node.result.now in
    subst (λ ns. OnInput (IsPlaced (take c.args.position ns) c.args.positions.now) node.keeps) (sym c.deref.ensures.value)
    (later_at c.args.positions.now c.args.position c.args.nodes.now.items node c.requires.stand (index_at c.args.positions.now c.args.position c.args.nodes.now.items c.index-node.result.now c.requires.stand c.index-node.ensures))

pub returns-then-len-limit-clause-over : goal.returns-then-len-limit-clause-over
returns-then-len-limit-clause-over c = λ node at.
    let nodes = c.args.nodes.now.items in
    let positions = c.args.positions.now in
    let here = c.index-node.result.now in
    let len : c.len_of-len.result ≡ shown_len_at positions c.args.position nodes =
    len_here positions c.args.position c.len_of-len.result nodes c.deref.result.now here c.requires.stand (index_at c.args.positions.now c.args.position c.args.nodes.now.items c.index-node.result.now c.requires.stand c.index-node.ensures) c.deref.ensures.value c.len_of-len.ensures in
    let more : c.args.limit < shown_len_at positions c.args.position nodes = omega (arith, len, c.if-len-limit.true) in
    (ap (λ (n : Node). n.list) (same_node positions c.args.position nodes here node (index_at positions c.args.position nodes here c.requires.stand c.index-node.ensures) at), (len, more))

pub returns-clause-short : goal.returns-clause-short
returns-clause-short c =
    let nodes = c.args.nodes.now.items in
    let positions = c.args.positions.now in
    let here = c.index-node.result.now in
    let len : c.len_of-len.result ≡ shown_len_at positions c.args.position nodes =
    len_here positions c.args.position c.len_of-len.result nodes c.deref.result.now here c.requires.stand (index_at c.args.positions.now c.args.position c.args.nodes.now.items c.index-node.result.now c.requires.stand c.index-node.ensures) c.deref.ensures.value c.len_of-len.ensures in
    omega (arith, len, c.if-len-limit.false)
