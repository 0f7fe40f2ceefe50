use Rattle.std.proofs.Common.{◌≡◌, map, take}
use Rattle.spec_value.specs.Tree.{num}
use Rattle.gl_testing.proofs.change.numbers.Given as goal

-- those so far are in the list
abbrev pub invariant-numbers : goal.invariant-numbers
invariant-numbers l = l.list ≡ map num (take l.n-index l.shown)
