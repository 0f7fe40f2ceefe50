use Rattle.std.proofs.Common.{◌==◌, ℕ, List, ◌++◌, filter}
use Rattle.gl_publisher.specs.Shortest.{IsLeastAt, distance_to}
use Rattle.gl_publisher.proofs.Cycles.{IsBest, IsBestFrom}
use Rattle.gl_publisher.proofs.cycle.shortest_cycle.Given as goal

abbrev pub invariant-loop-left : goal.invariant-loop-left
invariant-loop-left l = record {
  best : (tail : List ℕ) → IsBest l.dependencies l.start l.last l.left tail → IsBestFrom l.dependencies l.start l.distance (l.cycle ++ tail);
  nearest : IsLeastAt (distance_to l.distances) (filter (λ p. p.0 == l.last) l.dependencies) l.left;
}

abbrev pub decreases-loop-left : goal.decreases-loop-left
decreases-loop-left l = l.left
