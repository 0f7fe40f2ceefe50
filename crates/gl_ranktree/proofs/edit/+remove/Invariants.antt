use Rattle.gl_ranktree.specs.Nodes.{node_at}
use Rattle.gl_ranktree.proofs.edit.+remove.Given as goal

abbrev pub decreases-remove : goal.decreases-remove
decreases-remove g l = (node_at g.S.Summary.sums l.nodes.now l.top).height
