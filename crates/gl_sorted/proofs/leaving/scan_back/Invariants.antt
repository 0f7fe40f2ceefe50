use Rattle.std.proofs.Common.{◌≡◌, ◌≤◌, length, take, drop}
use Rattle.gl_sorted.specs.Leaves.{back_scanned, least_new}
use Rattle.gl_sorted.proofs.leaving.scan_back.Given as goal

abbrev pub invariant-loop-left : goal.invariant-loop-left
invariant-loop-left l = record {
  within : l.left ≤ length l.leaving;
  long : length l.leaving ≡ length l.fn.leaving;
  prefix : take l.left l.leaving ≡ take l.left l.fn.leaving;
  back : drop l.left l.leaving ≡ back_scanned l.top (drop l.left l.fn.leaving);
  least : l.least ≡ least_new l.top (drop l.left l.fn.leaving);
}

abbrev pub decreases-loop-left : goal.decreases-loop-left
decreases-loop-left l = l.left
