use Rattle.std.proofs.Common.{◌≡◌, vec_len, length}
use Rattle.gl_graph.specs.Nodes.{numbers}
use Rattle.gl_graph.specs.Waves.{before_all, by_position, HaveRoomBack}
use Rattle.gl_graph.proofs.Taken.{AreLeft}
use Rattle.gl_graph.proofs.graph.take_back.Given as goal

-- what is left, of what there is, is the whole
abbrev pub invariant-made : goal.invariant-made
invariant-made l = record {
  left : AreLeft (length l.initial.nodes.items) l.made.items l.nodes.items (before_all (by_position (length l.initial.nodes.items) l.initial.made.items) l.initial.nodes.items);
  same : numbers l.nodes.items ≡ numbers l.initial.nodes.items;
  room : HaveRoomBack (by_position (length l.initial.nodes.items) l.initial.made.items) l.initial.nodes.items (by_position (length l.initial.nodes.items) l.made.items) l.nodes.items;
}

abbrev pub decreases-made : goal.decreases-made
decreases-made l = vec_len l.made
