use Rattle.std.proofs.Common.{◌≡◌, ◌-◌, ◌≤◌, ◌<◌, ℕ, Some, length}
use Rattle.std.specs.List.{slice_get}
use Rattle.gl_arranged.specs.declared.changed.Ranked.{Ranked}
use Rattle.gl_classes.proofs.touched.changed_before.Given as goal

abbrev pub invariant-passed : goal.invariant-passed
invariant-passed l = record {
  onward : l.from ≤ l.at;
  within : l.at ≤ length l.ranked;
  before : (k : ℕ) (r : Ranked) → l.from ≤ k → k < l.at → slice_get l.ranked k ≡ Some r → r.place < l.place;
}

abbrev pub decreases-passed : goal.decreases-passed
decreases-passed l = length l.ranked - l.at
