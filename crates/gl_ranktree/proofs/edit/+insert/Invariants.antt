use Rattle.gl_ranktree.specs.Nodes.{node_at}
use Rattle.gl_ranktree.proofs.edit.+insert.Given as goal

abbrev pub decreases-insert : goal.decreases-insert
decreases-insert g l = (node_at g.S.Summary.sums l.nodes.now l.top).height
