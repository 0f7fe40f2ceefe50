use Rattle.std.proofs.Common.{◌≡◌, ℕ, ◌+◌, take, slice_index, vec_len}
use Rattle.gl_publisher.specs.Waiting.{ends_with, GainsFree}
use Rattle.gl_publisher.proofs.waiting.release.Given as goal

abbrev pub invariant-loop-dependent : goal.invariant-loop-dependent
invariant-loop-dependent l = record {
  size : vec_len l.counts ≡ vec_len l.initial.counts;
  counted : (a : ℕ) → slice_index l.counts.items a + ends_with (take l.dependent-index l.pairs) a ≡ slice_index l.initial.counts.items a;
  gains : GainsFree l.initial.counts.items l.counts.items l.initial.free l.free;
}
