use Rattle.std.proofs.Common.{length, refl}
use Rattle.std.proofs.lemmas.Option.{slice_get-get_or}
use Rattle.spec_sorting.specs.Leads.{undone}
use Rattle.gl_arranged.specs.Sorting.{order_cmp}
use Rattle.gl_arranged.proofs.Sortings.{order_cmp_total}
use Rattle.gl_classes.proofs.Meetings.{stays_already, new_already, none_met, new_none, one_met, new_met}
use Rattle.gl_classes.proofs.meeting.meet_one.Goals as goal

pub returns-then-one-clause-olds : goal.returns-then-one-clause-olds
returns-then-one-clause-olds g c =
    let ys = g.S.Shelf.items c.args.input.now in
    stays_already (order_cmp c.args.order.now) (order_cmp_total c.args.order.now) (undone c.args.d.now.pieces ys) ys c.args.d.now.pieces c.args.olds.now c.requires.olds c.args.one c.if-one.true

pub returns-then-one-clause-new : goal.returns-then-one-clause-new
returns-then-one-clause-new g c =
    let ys = g.S.Shelf.items c.args.input.now in
    new_already (order_cmp c.args.order.now) (order_cmp_total c.args.order.now) (undone c.args.d.now.pieces ys) ys c.args.d.now.pieces c.args.olds.now c.requires.olds c.args.one c.if-one.true

pub returns-in-Some-clause-olds : goal.returns-in-Some-clause-olds
returns-in-Some-clause-olds g c =
    let ys = g.S.Shelf.items c.args.input.now in
    one_met (order_cmp c.args.order.now) (order_cmp_total c.args.order.now) (undone c.args.d.now.pieces ys) ys c.args.d.now.pieces c.args.olds.now c.requires.olds c.args.one
    (length c.args.olds.now) c.in-Some.old _ c.if-one.false c.in-Some.ensures.met (slice_get-get_or c.args.olds.now c.in-Some.old _ c.in-Some.ensures.met.1)

pub returns-in-Some-clause-new : goal.returns-in-Some-clause-new
returns-in-Some-clause-new g c =
    let ys = g.S.Shelf.items c.args.input.now in
    new_met (order_cmp c.args.order.now) (order_cmp_total c.args.order.now) (undone c.args.d.now.pieces ys) ys c.args.d.now.pieces c.args.olds.now c.requires.olds c.args.one
    (length c.args.olds.now) c.in-Some.old c.in-Some.ensures.met

pub returns-in-None-clause-olds : goal.returns-in-None-clause-olds
returns-in-None-clause-olds g c =
    let ys = g.S.Shelf.items c.args.input.now in
    none_met (order_cmp c.args.order.now) (order_cmp_total c.args.order.now) (undone c.args.d.now.pieces ys) ys c.args.d.now.pieces c.args.olds.now c.requires.olds c.args.one
    (length c.args.olds.now) refl c.in-None.ensures.met

pub returns-in-None-clause-new : goal.returns-in-None-clause-new
returns-in-None-clause-new g c =
    let ys = g.S.Shelf.items c.args.input.now in
    new_none (order_cmp c.args.order.now) (order_cmp_total c.args.order.now) (undone c.args.d.now.pieces ys) ys c.args.d.now.pieces c.args.olds.now c.requires.olds c.args.one
    (length c.args.olds.now) refl c.in-None.ensures.met
