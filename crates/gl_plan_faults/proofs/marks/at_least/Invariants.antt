use Rattle.std.proofs.Common.{◌≡◌, ◌⊎◌, ℕ, length}
use Rattle.gl_plan_faults.specs.Marked.{is_marked}
use Rattle.gl_plan_faults.proofs.marks.at_least.Given as goal

abbrev pub invariant-loop-number : goal.invariant-loop-number
invariant-loop-number l = record {
  same : (b : ℕ) → is_marked l.marks.items b ≡ is_marked l.initial.marks.items b;
  long : length l.marks.items ≡ l._number;
}
