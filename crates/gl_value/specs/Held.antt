-- The values that a list under construction holds.
use Rattle.std.specs.Prelude.{List, [], Option, None, Some}
use Rattle.std.specs.declared.sync.Arc.{Arc}
use Rattle.std.specs.declared.vec.Vec.{Vec}

abbrev pub held : {X Y Z : Type 0} → Option (Arc (Vec X Y) Z) → List X
held None = []
held (Some it) = it.value.items
