use Rattle.std.proofs.Common.{◌∙◌, ◌++◌, true, map, ap, sym, subst, arith}
use Rattle.spec_sorting.specs.Piece.{normal}
use Rattle.spec_classes.specs.Unique.{unique_view}
use Rattle.gl_kernel.specs.Plans.{CanTell}
use Rattle.gl_classes.specs.Sorting.{order_cmp}
use Rattle.gl_classes.proofs.Sortings.{order_cmp_total}
use Rattle.gl_unique.specs.Replacing.{turned}
use Rattle.gl_unique.proofs.Laws.{few_shown}
use Rattle.gl_unique.proofs.Replacements.{can_delete, can_insert, told_both}
use Rattle.gl_unique.proofs.replaced.replaced.Goals as goal

pub tell_all-requires-clause-can : goal.tell_all-requires-clause-can
tell_all-requires-clause-can g c =
    let xs = g.S.Shelf.items c.args.input.now in
    let before = c.args.before.now.list.order in
    let after = c.args.after.now.list.order in
    let few = few_shown (order_cmp before) (order_cmp_total before) xs in
    let few_too = few_shown (order_cmp after) (order_cmp_total after) xs in
    subst (CanTell (map (turned true) (unique_view (order_cmp before) xs))) (sym c.start-out.ensures)
    (can_delete (unique_view (order_cmp before) xs) (unique_view (order_cmp after) xs) (omega (arith, few, c.requires.few)) (omega (arith, few_too, c.requires.few)))

pub tell_all-requires-2-clause-can : goal.tell_all-requires-2-clause-can
tell_all-requires-2-clause-can g c =
    let xs = g.S.Shelf.items c.args.input.now in
    let before = c.args.before.now.list.order in
    let after = c.args.after.now.list.order in
    let few = few_shown (order_cmp before) (order_cmp_total before) xs in
    let few_too = few_shown (order_cmp after) (order_cmp_total after) xs in
    can_insert (unique_view (order_cmp before) xs) (unique_view (order_cmp after) xs) (omega (arith, few, c.requires.few)) (omega (arith, few_too, c.requires.few)) c.tell_all.new.out.pieces
    (c.in_ok-tell_all.ensures ∙ ap (λ ps. normal (ps ++ map (turned true) (unique_view (order_cmp before) xs))) c.start-out.ensures)

pub returns : goal.returns
returns g c =
    let xs = g.S.Shelf.items c.args.input.now in
    let olds = unique_view (order_cmp c.args.before.now.list.order) xs in
    let news = unique_view (order_cmp c.args.after.now.list.order) xs in
    told_both olds news c.tell_all.new.out.pieces c.tell_all-2.new.out.pieces
    (c.in_ok-tell_all.ensures ∙ ap (λ ps. normal (ps ++ map (turned true) olds)) c.start-out.ensures) c.in_ok-tell_all-2.ensures
