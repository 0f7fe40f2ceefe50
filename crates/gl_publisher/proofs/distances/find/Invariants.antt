use Rattle.std.proofs.Common.{take}
use Rattle.gl_publisher.specs.Distances.{EndsWith, Finds}
use Rattle.gl_publisher.proofs.distances.find.Given as goal

abbrev pub invariant-loop-number : goal.invariant-loop-number
invariant-loop-number l =
    Finds (EndsWith (take l.number-index l.pairs)) l.distance l.initial.distances.items l.distances.items l.initial.found.items l.found.items
