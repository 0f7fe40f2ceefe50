use Rattle.std.proofs.Common.{◌-◌}
use Rattle.gl_ranktree.specs.Nodes.{node_at}
use Rattle.gl_ranktree.proofs.find.+positions_before.Given as goal

abbrev pub decreases-positions_before : goal.decreases-positions_before
decreases-positions_before g l = 4294967296 - (node_at g.S.Summary.sums l.nodes.now l.slot).height
