-- The cells of pieces, as they are shown and given.
use Rattle.std.specs.Prelude.{List, drop}
use Rattle.spec_lists.specs.Cells.{Cell, keep, update, delete, insert, cells_of}
use Rattle.gl_delta.specs.declared.cell.CellRef.{CellRef}
use Rattle.gl_delta.specs.declared.cell.CellRef.TheVariants.{Keep, Update, Delete, Insert}
use Rattle.gl_delta.specs.declared.cell.Cell.{Cell as Given}
use Rattle.gl_delta.specs.declared.cell.Cell.TheVariants as given
use Rattle.gl_delta.specs.declared.cells.Cells.{Cells}

-- the cell that a reference to one shows
abbrev pub cell_ref : CellRef → Cell
cell_ref (Keep n) = keep n
cell_ref (Update v w) = update v.now w.now
cell_ref (Delete v) = delete v.now
cell_ref (Insert w) = insert w.now

abbrev pub cell_of : Given → Cell
cell_of (given.Keep n) = keep n
cell_of (given.Update v w) = update v w
cell_of (given.Delete v) = delete v
cell_of (given.Insert w) = insert w

-- the cells of the pieces from a place on
abbrev pub cells_rest : Cells → List Cell
cells_rest s = cells_of (drop s.at s.store.now.pieces)
