use Rattle.std.proofs.Common.{◌≡◌, ◌++◌, take}
use Rattle.gl_event.proofs.replaying.keep.Given as goal

abbrev pub invariant-loop-value : goal.invariant-loop-value
invariant-loop-value l = l.made ≡ l.initial.made ++ take l.value-index l.values
