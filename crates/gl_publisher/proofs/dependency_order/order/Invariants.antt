use Rattle.std.proofs.Common.{◌≡◌, length}
use Rattle.gl_publisher.proofs.Underway.{Underway}
use Rattle.gl_publisher.proofs.dependency_order.order.Given as goal

abbrev pub invariant-loop-position : goal.invariant-loop-position
invariant-loop-position l = record {
  here : length l.placed ≡ l._position;
  underway : Underway l.n l.edges l.placed l.counts.items l.free;
}
