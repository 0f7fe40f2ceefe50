-- The lists that rows speak of.
use Rattle.std.specs.Prelude.{List, [], ◌∷◌}
use Rattle.spec_value.specs.Tree.{Tree, num}
use Rattle.gl_testing.specs.declared.change.Row.{Row}
use Rattle.gl_testing.specs.declared.change.Row.TheVariants.{Keep, Update, Delete, Insert}

-- what a row puts into the list before the change, and into the one after it
abbrev pub old_of : Row → List Tree
old_of (Keep a) = num a ∷ []
old_of (Update a b) = num a ∷ []
old_of (Delete a) = num a ∷ []
old_of (Insert b) = []

abbrev pub new_of : Row → List Tree
new_of (Keep a) = num a ∷ []
new_of (Update a b) = num b ∷ []
new_of (Delete a) = []
new_of (Insert b) = num b ∷ []
