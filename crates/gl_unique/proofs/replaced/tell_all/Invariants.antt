use Rattle.std.proofs.Common.{◌≡◌, ◌≤◌, ◌++◌, length, map, take}
use Rattle.spec_sorting.specs.Piece.{normal}
use Rattle.spec_classes.specs.Unique.{unique_view}
use Rattle.gl_classes.specs.Sorting.{order_cmp}
use Rattle.gl_unique.specs.Replacing.{turned}
use Rattle.gl_unique.proofs.replaced.tell_all.Given as goal

abbrev pub invariant-loop-class : goal.invariant-loop-class
invariant-loop-class g l = record {
  within : l.class ≤ length (unique_view (order_cmp l.classes.list.order) (g.S.Shelf.items l.input));
  end : l.class-end ≡ length (unique_view (order_cmp l.classes.list.order) (g.S.Shelf.items l.input));
  told : l.out.pieces ≡ normal (l.fn.out.pieces ++ map (turned l.were) (take l.class (unique_view (order_cmp l.classes.list.order) (g.S.Shelf.items l.input))));
}
