use Rattle.std.proofs.Common.{◌∙◌, length, ap}
use Rattle.gl_arranged.specs.Sorting.{order_cmp}
use Rattle.gl_arranged.proofs.Sortings.{order_cmp_total}
use Rattle.gl_order.proofs.Edits.{length-ordered}
use Rattle.gl_arranged.specs.Kept.{Kept}
use Rattle.gl_sorted.proofs.sorted.Sorted.change.Goals as goal

pub replaced-requires-clause-before : goal.replaced-requires-clause-before
replaced-requires-clause-before g c =
    let k = c.args.self.now in
    ap (λ (a : Kept). length a.tree.places) c.self.view_is ∙ length-ordered (order_cmp k.order) (g.S.Shelf.items c.args.input.now) k.tree (order_cmp_total k.order) c.requires.stands

pub replaced-requires-clause-after : goal.replaced-requires-clause-after
replaced-requires-clause-after g c =
    let k = c.in_ok-list.list in
    length-ordered (order_cmp k.order) (g.S.Shelf.items c.args.input.now) k.tree (order_cmp_total k.order) c.in_ok-list.ensures.stands
