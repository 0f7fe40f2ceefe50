use Rattle.std.proofs.Common.{ℕ, ◌<◌, List}
use Rattle.spec_order.specs.Cycle.{IsWalk}
use Rattle.gl_publisher.proofs.cycle.first_cycle.Given as goal

abbrev pub invariant-loop-start : goal.invariant-loop-start
invariant-loop-start l = (y : ℕ) → y < l.start → (ys : List ℕ) → ¬ IsWalk l.edges y ys y
