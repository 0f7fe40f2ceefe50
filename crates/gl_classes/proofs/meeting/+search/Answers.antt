use Rattle.std.proofs.Common.{◌∙◌, ◌+◌, ◌-◌, ◌/◌, ◌<◌, length, refl, sym, arith}
use Rattle.std.proofs.lemmas.Option.{slice_get-get_or}
use Rattle.spec_sorting.specs.Leads.{undone}
use Rattle.gl_arranged.specs.Sorting.{order_cmp}
use Rattle.gl_arranged.proofs.Sortings.{order_cmp_total}
use Rattle.gl_classes.proofs.Searches.{met_after, met_before, met_here, halved, halved_low}
use Rattle.gl_classes.proofs.meeting.+search.Goals as goal

pub returns-in-Less-clause-met : goal.returns-in-Less-clause-met
returns-in-Less-clause-met g t c =
    let ps = c.args.d.now.pieces in
    let ys = g.S.Shelf.items c.args.input.now in
    let middle = c.args.low + (c.args.high - c.args.low) / 2 in
    let inside : middle < length c.args.olds.now = omega (arith, c.if-low-high.false, c.requires.high) in
    met_after (order_cmp c.args.order.now) (order_cmp_total c.args.order.now) (undone ps ys) ys ps c.args.olds.now c.requires.olds c.args.new
    c.args.low middle c.args.high _ c.search.result (omega arith) (slice_get-get_or c.args.olds.now middle _ inside) (sym c.compare_keys.ensures.value ∙ c.in-Less.is) c.search.ensures.met

pub returns-in-Less-clause-counted : goal.returns-in-Less-clause-counted
returns-in-Less-clause-counted g t c =
    λ digits few.
    let middle = c.args.low + (c.args.high - c.args.low) / 2 in
    halved c.args.low c.args.high middle (c.args.high - (middle + 1)) digits c.args.steps.now c.search.new.steps (omega (arith, c.if-low-high.false)) refl (omega (arith, c.if-low-high.false)) few
    (λ fewer less. let counted = c.search.ensures.counted fewer less in omega (arith, counted, c.compare_keys.ensures.counted))

pub returns-in-Equal-clause-met : goal.returns-in-Equal-clause-met
returns-in-Equal-clause-met g t c =
    let ps = c.args.d.now.pieces in
    let ys = g.S.Shelf.items c.args.input.now in
    let middle = c.args.low + (c.args.high - c.args.low) / 2 in
    let inside : middle < length c.args.olds.now = omega (arith, c.if-low-high.false, c.requires.high) in
    met_here (order_cmp c.args.order.now) (order_cmp_total c.args.order.now) (undone ps ys) ys ps c.args.olds.now c.requires.olds c.args.new
    c.args.low middle c.args.high _ (omega arith) (omega (arith, c.if-low-high.false)) (slice_get-get_or c.args.olds.now middle _ inside) (sym c.compare_keys.ensures.value ∙ c.in-Equal.is)

pub returns-in-Greater-clause-met : goal.returns-in-Greater-clause-met
returns-in-Greater-clause-met g t c =
    let ps = c.args.d.now.pieces in
    let ys = g.S.Shelf.items c.args.input.now in
    let middle = c.args.low + (c.args.high - c.args.low) / 2 in
    let inside : middle < length c.args.olds.now = omega (arith, c.if-low-high.false, c.requires.high) in
    met_before (order_cmp c.args.order.now) (order_cmp_total c.args.order.now) (undone ps ys) ys ps c.args.olds.now c.requires.olds c.args.new
    c.args.low middle c.args.high _ c.search-in-Greater.result (omega (arith, c.if-low-high.false)) (slice_get-get_or c.args.olds.now middle _ inside) (sym c.compare_keys.ensures.value ∙ c.in-Greater.is) c.search-in-Greater.ensures.met

pub returns-in-Greater-clause-counted : goal.returns-in-Greater-clause-counted
returns-in-Greater-clause-counted g t c =
    λ digits few.
    let middle = c.args.low + (c.args.high - c.args.low) / 2 in
    halved_low c.args.low c.args.high middle digits c.args.steps.now c.search-in-Greater.new.steps (omega (arith, c.if-low-high.false)) refl few
    (λ fewer less. let counted = c.search-in-Greater.ensures.counted fewer less in omega (arith, counted, c.compare_keys.ensures.counted))
