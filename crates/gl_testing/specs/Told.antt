-- The cells that are told.
use Rattle.spec_value.specs.Tree.{num}
use Rattle.spec_lists.specs.Cells.{Cell, keep, update, delete, insert}
use Rattle.gl_testing.specs.declared.told.Told.{Told}
use Rattle.gl_testing.specs.declared.told.Told.TheVariants.{Keep, Update, Delete, Insert}

abbrev pub cell_told : Told → Cell
cell_told (Keep n) = keep n
cell_told (Update a b) = update (num a) (num b)
cell_told (Delete a) = delete (num a)
cell_told (Insert b) = insert (num b)
