-- The children of a value by a path: the elements where the path gives a list, else none.
use Rattle.std.specs.Prelude.{ℕ, List}
use Rattle.spec_value.specs.Tree.{Tree, elements}
use Rattle.spec_lang.specs.Path.{at}

abbrev pub kids : List ℕ → Tree → List Tree
kids path v = elements (at path v)
