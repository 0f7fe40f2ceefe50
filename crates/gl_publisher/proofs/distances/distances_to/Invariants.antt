use Rattle.std.proofs.Common.{◌+◌, length}
use Rattle.gl_publisher.specs.Distances.{IsDependent, unknown_count}
use Rattle.gl_publisher.proofs.Levels.{IsAtLevel}
use Rattle.gl_publisher.proofs.distances.distances_to.Given as goal

abbrev pub invariant-levels : goal.invariant-levels
invariant-levels l = IsAtLevel l.n (IsDependent l.dependents) l.start l.level l.distances.items l.listed.items

abbrev pub decreases-levels : goal.decreases-levels
decreases-levels l = length l.listed.items + unknown_count l.distances.items
