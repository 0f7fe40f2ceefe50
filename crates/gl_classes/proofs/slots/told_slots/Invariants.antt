use Rattle.std.proofs.Common.{◌≡◌, ◌+◌, ◌-◌, ◌++◌, length}
use Rattle.spec_sorting.specs.Leads.{undone}
use Rattle.spec_classes.specs.Slots.{slots}
use Rattle.gl_arranged.specs.Sorting.{order_cmp}
use Rattle.gl_classes.specs.Sides.{IsAt, slots_left}
use Rattle.gl_classes.proofs.slots.told_slots.Given as goal

abbrev pub invariant-slots : goal.invariant-slots
invariant-slots g l = record {
  stands_at : IsAt (order_cmp l.classes.list.order) (undone l.d.pieces (g.S.Shelf.items l.input)) (g.S.Shelf.items l.input) l.olds l.news l.at;
  told : l.out.items ++ slots_left (order_cmp l.classes.list.order) (undone l.d.pieces (g.S.Shelf.items l.input)) (g.S.Shelf.items l.input) l.d.pieces l.at
      ≡ slots (order_cmp l.classes.list.order) (undone l.d.pieces (g.S.Shelf.items l.input)) l.d.pieces;
}

abbrev pub decreases-slots : goal.decreases-slots
decreases-slots g l = (length l.olds + length l.news) - (l.at.gone + l.at.came)
