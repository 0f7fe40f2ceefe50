use Rattle.std.proofs.Common.{◌≡◌, replicate, None}
use Rattle.gl_delta.proofs.deltas.Deltas.make.Given as goal

abbrev pub invariant-loop : goal.invariant-loop
invariant-loop l = record {
  made : l.slots.items ≡ replicate l.counter None;
}
