use Rattle.std.proofs.Common.{◌∙◌}
use Rattle.gl_grouping.proofs.Laws.{edits_make}
use Rattle.gl_grouping.proofs.follow.regroup.Goals as goal

pub apply-requires-clause-within : goal.apply-requires-clause-within
apply-requires-clause-within g c =
    let k = c.args.classes.now in
    let ys = g.S.Shelf.items c.args.input.now in
    let makes = edits_make k c.args.groups.now.values ys c.args.slots.now c.in_ok-plan.plan.log.items c.requires c.in_ok-plan.ensures.edits in
    makes.within

pub apply-requires-clause-few : goal.apply-requires-clause-few
apply-requires-clause-few g c =
    let k = c.args.classes.now in
    let ys = g.S.Shelf.items c.args.input.now in
    let makes = edits_make k c.args.groups.now.values ys c.args.slots.now c.in_ok-plan.plan.log.items c.requires c.in_ok-plan.ensures.edits in
    makes.few

pub returns-clause-groups : goal.returns-clause-groups
returns-clause-groups g c =
    let k = c.args.classes.now in
    let ys = g.S.Shelf.items c.args.input.now in
    let makes = edits_make k c.args.groups.now.values ys c.args.slots.now c.in_ok-plan.plan.log.items c.requires c.in_ok-plan.ensures.edits in
    c.in_ok-log.ensures.ok ∙ makes.made
