use Rattle.std.proofs.Common.{[], take}
use Rattle.gl_publisher.specs.Distances.{IsDependent, IsRelatedToSome, Finds}
use Rattle.gl_publisher.proofs.distances.next_level.Given as goal

abbrev pub invariant-loop-number : goal.invariant-loop-number
invariant-loop-number l =
    Finds (IsRelatedToSome (IsDependent l.dependents) (take l.number-index l.listed)) l.distance l.initial.distances.items l.distances.items [] l.found.items
