use Rattle.std.proofs.Common.{◌≡◌, length}
use Rattle.gl_graph.specs.Positions.{ArePositions}
use Rattle.gl_graph.proofs.position.positions_in.Given as goal

abbrev pub invariant-order : goal.invariant-order
invariant-order l = record {
  long : length l.positions.items ≡ l.fn.n;
  positions : ArePositions l.positions.items l.order l.position;
}
