-- Marks that are put in from left to right.
use Rattle.std.specs.Prelude.{Bool, List, ◌++◌, replicate}
use Rattle.gl_filter.specs.declared.marks.Marking.{Marking}

-- those that are put in, and those that aren't yet
abbrev pub marked : Marking → List Bool
marked m = m.marks.shown ++ replicate m.run m.last
