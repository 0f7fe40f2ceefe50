use Rattle.std.specs.Prelude.{slice_index}
use Rattle.gl_graph.proofs.seen.+shown_len.Given as goal

abbrev pub decreases-shown_len : goal.decreases-shown_len
decreases-shown_len l = slice_index l.positions.now l.list
