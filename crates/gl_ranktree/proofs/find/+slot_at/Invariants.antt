use Rattle.gl_ranktree.specs.Nodes.{node_at}
use Rattle.gl_ranktree.proofs.find.+slot_at.Given as goal

abbrev pub decreases-slot_at : goal.decreases-slot_at
decreases-slot_at g l = (node_at g.S.Summary.sums l.nodes.now l.top).height
