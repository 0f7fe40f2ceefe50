use Rattle.gl_ranktree.proofs.Links.{Reparents-set}
use Rattle.gl_ranktree.proofs.node.set_parent.Goals as goal

pub returns-then-index-nodes : goal.returns-then-index-nodes
returns-then-index-nodes g c = Reparents-set _ _ _ _ _ c.if-index-nodes.true c.index-nodes-index.is
