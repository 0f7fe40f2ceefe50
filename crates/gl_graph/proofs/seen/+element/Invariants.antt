use Rattle.std.specs.Prelude.{slice_index}
use Rattle.gl_graph.proofs.seen.+element.Given as goal

abbrev pub decreases-element : goal.decreases-element
decreases-element l = slice_index l.positions.now l.list
