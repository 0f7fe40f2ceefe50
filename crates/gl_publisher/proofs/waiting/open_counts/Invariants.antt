use Rattle.std.proofs.Common.{◌≡◌, ℕ, ◌==◌, take, slice_index, count_by, vec_len}
use Rattle.gl_publisher.proofs.waiting.open_counts.Given as goal

abbrev pub invariant-loop-dependent : goal.invariant-loop-dependent
invariant-loop-dependent l = record {
  size : vec_len l.counts ≡ l.n;
  counted : (a : ℕ) → slice_index l.counts.items a ≡ count_by (λ e. e.0 == a) (take l.dependent-index l.edges);
}
