use Rattle.std.proofs.Common.{◌≡◌, take}
use Rattle.gl_value.proofs.values.copies.Given as goal

abbrev pub invariant-loop-item : goal.invariant-loop-item
invariant-loop-item l = l.own.items ≡ take l.item-index l.items
