use Rattle.std.proofs.Common.{◌≡◌, length}
use Rattle.gl_graph.proofs.position.zeros.Given as goal

abbrev pub invariant-loop : goal.invariant-loop
invariant-loop l = record { long : length l.positions.items ≡ l.counter }
