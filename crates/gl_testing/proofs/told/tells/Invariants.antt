use Rattle.std.proofs.Common.{◌≡◌, ◌++◌, map, take}
use Rattle.spec_lists.specs.Cells.{cells_of}
use Rattle.gl_delta.specs.Cells.{cells_rest}
use Rattle.gl_testing.specs.Told.{cell_told}
use Rattle.gl_testing.proofs.told.tells.Given as goal

-- the cells so far are told, and those after them are left
abbrev pub invariant-told : goal.invariant-told
invariant-told l = cells_of l.delta.pieces ≡ map cell_told (take l.one-index l.told) ++ cells_rest l.cells
