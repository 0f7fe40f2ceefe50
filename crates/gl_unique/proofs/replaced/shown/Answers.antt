use Rattle.std.proofs.Common.{◌∙◌, sym}
use Rattle.gl_classes.specs.Sorting.{order_cmp}
use Rattle.gl_classes.proofs.Sortings.{order_cmp_total}
use Rattle.gl_unique.proofs.Shown.{is_shown, none_low}
use Rattle.gl_unique.proofs.replaced.shown.Goals as goal

pub element-requires : goal.element-requires
element-requires g c =
    let ys = g.S.Shelf.items c.args.input.now in
    let order = c.args.classes.now.list.order in
    (is_shown (order_cmp order) (order_cmp_total order) ys c.args.class c.in-Some.first (sym c.in-Some.is ∙ c.find_first.ensures ys c.requires.stands)).within

pub unreachable-requires : goal.unreachable-requires
unreachable-requires g c =
    let ys = g.S.Shelf.items c.args.input.now in
    let order = c.args.classes.now.list.order in
    none_low (order_cmp order) (order_cmp_total order) ys c.args.class (sym c.in-None.is ∙ c.find_first.ensures ys c.requires.stands) c.requires.within

pub returns : goal.returns
returns g c =
    let ys = g.S.Shelf.items c.args.input.now in
    let order = c.args.classes.now.list.order in
    sym (is_shown (order_cmp order) (order_cmp_total order) ys c.args.class c.in-Some.first (sym c.in-Some.is ∙ c.find_first.ensures ys c.requires.stands)).same ∙ c.element.ensures
