use Rattle.gl_ranktree.specs.Nodes.{node_at}
use Rattle.gl_ranktree.proofs.seek.+seek.Given as goal

abbrev pub decreases-seek : goal.decreases-seek
decreases-seek g l = (node_at g.S.Summary.sums l.nodes.now l.top).height
