use Rattle.std.proofs.Common.{take}
use Rattle.gl_publisher.specs.Shortest.{IsLeast, number_at}
use Rattle.gl_publisher.proofs.least.least_number.Given as goal

abbrev pub invariant-loop-number : goal.invariant-loop-number
invariant-loop-number l = IsLeast (number_at l.distances l.wanted) (take l.number-index l.pairs) l.least
