use Rattle.gl_ranktree.proofs.Links.{read_at, read_past}
use Rattle.gl_ranktree.proofs.node.read.Goals as goal

pub returns-then-index-nodes : goal.returns-then-index-nodes
returns-then-index-nodes g c = read_at _ _ _ _ c.if-index-nodes.true c.index-nodes-index.is

pub returns-else-index-nodes : goal.returns-else-index-nodes
returns-else-index-nodes g c =
    rw (read_past g.S.Summary.sums c.args.nodes.now c.args.slot c.if-index-nodes.false, c.zero.ensures, c.zero-else-index-nodes.ensures)
