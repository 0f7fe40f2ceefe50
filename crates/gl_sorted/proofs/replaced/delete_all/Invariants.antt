use Rattle.std.proofs.Common.{◌≡◌, ◌≤◌, length, map, take}
use Rattle.spec_sorting.specs.Piece.{deleted}
use Rattle.gl_sorted.proofs.Replacement.{values_at}
use Rattle.gl_sorted.proofs.replaced.delete_all.Given as goal

abbrev pub invariant-loop-place : goal.invariant-loop-place
invariant-loop-place g l = record {
  within : l.place ≤ length l.list.tree.places;
  end : l.place-end ≡ length l.list.tree.places;
  told : l.out.pieces ≡ map deleted (values_at (g.S.Shelf.items l.input) (take l.place l.list.tree.places));
}
