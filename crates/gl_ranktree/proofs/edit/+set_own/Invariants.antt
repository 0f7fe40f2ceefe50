use Rattle.gl_ranktree.specs.Nodes.{node_at}
use Rattle.gl_ranktree.proofs.edit.+set_own.Given as goal

abbrev pub decreases-set_own : goal.decreases-set_own
decreases-set_own g l = (node_at g.S.Summary.sums l.nodes.now l.top).height
