use Rattle.gl_graph.specs.Build.{AreOpenTo}
use Rattle.gl_graph.proofs.start.open_counted.Given as goal

-- the lists at the places so far are open
abbrev pub invariant-positions : goal.invariant-positions
invariant-positions g l = AreOpenTo l.dependency_order l.position l.nodes.items
