use Rattle.std.proofs.Common.{◌≡◌, ◌≤◌, ◌++◌, length, take, drop}
use Rattle.gl_sorted.specs.Leaves.{prefix_scanned}
use Rattle.gl_sorted.proofs.leaving.scan_prefix.Given as goal

abbrev pub invariant-loop-index : goal.invariant-loop-index
invariant-loop-index l = record {
  made : take l.index l.leaving ++ prefix_scanned l.greatest (drop l.index l.leaving) ≡ prefix_scanned 0 l.fn.leaving;
  within : l.index ≤ length l.leaving;
  end : l.index-end ≡ length l.leaving;
}
