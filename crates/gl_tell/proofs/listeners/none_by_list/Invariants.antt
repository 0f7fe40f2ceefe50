use Rattle.std.proofs.Common.{◌≡◌, ℕ, [], length}
use Rattle.std.specs.Prelude.{slice_index_or}
use Rattle.gl_tell.proofs.listeners.none_by_list.Given as goal

abbrev pub invariant-loop-list : goal.invariant-loop-list
invariant-loop-list l = record {
  long : length l.none.items ≡ l._list;
  empty : (list : ℕ) → slice_index_or l.none.items list [] ≡ [];
}
