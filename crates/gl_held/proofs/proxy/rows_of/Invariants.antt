use Rattle.std.proofs.Common.{◌≡◌, take}
use Rattle.gl_held.proofs.proxy.rows_of.Given as goal

abbrev pub invariant-rows : goal.invariant-rows
invariant-rows g l = l.rows ≡ take l.position (g.S.Shelf.items l.input)
