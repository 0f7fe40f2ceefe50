use Rattle.std.proofs.Common.{take}
use Rattle.gl_publisher.specs.Shortest.{IsLeast, distance_to}
use Rattle.gl_publisher.proofs.least.least_distance.Given as goal

abbrev pub invariant-loop-number : goal.invariant-loop-number
invariant-loop-number l = IsLeast (distance_to l.distances) (take l.number-index l.pairs) l.least
