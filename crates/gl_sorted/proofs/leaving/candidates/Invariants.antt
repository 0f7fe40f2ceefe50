use Rattle.std.proofs.Common.{◌≡◌, ◌≤◌, length, map, take, vec_len, vec_capacity}
use Rattle.gl_sorted.specs.Leaves.{ranks, leaving_of}
use Rattle.gl_sorted.proofs.leaving.candidates.Given as goal

abbrev pub invariant-loop-index : goal.invariant-loop-index
invariant-loop-index l = record {
  made : l.all.items ≡ map (leaving_of l.list.tree.places (ranks l.gone) (ranks l.came)) (take l.index l.gone);
  within : l.index ≤ length l.gone;
  end : l.index-end ≡ length l.gone;
  len : vec_len l.all ≡ l.index;
  room : length l.gone ≤ vec_capacity l.all;
}
