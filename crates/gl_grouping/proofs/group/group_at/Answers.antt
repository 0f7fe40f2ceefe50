use Rattle.std.proofs.Common.{◌∙◌, Some, map, ap, sym, arith}
use Rattle.spec_sorting.specs.Source.{element_at}
use Rattle.gl_grouping.proofs.Groups.{between, source_within, member_more, members_end, group_is}
use Rattle.gl_grouping.proofs.group.group_at.Goals as goal

pub element-member-requires : goal.element-member-requires
element-member-requires g c = source_within c.args.classes.now (g.S.Shelf.items c.args.input.now) c.requires.stands c.loop-place.place c.source_of.result c.source_of.ensures.at

pub loop-place-preserved : goal.loop-place-preserved
loop-place-preserved g c =
    let xs = g.S.Shelf.items c.args.input.now in
    let places = c.args.classes.now.list.tree.places in
    member_more xs c.loop-place.members c.add.new.members places c.loop-place.place c.span-start.result.1 c.source_of.result c.element-member.result.now c.in_ok-copy.field-0
    (map (element_at xs) (between places c.span-start.result.0 c.span-start.result.1)) c.loop-place.invariant c.loop-place-test.true c.source_of.ensures.at c.element-member.ensures c.in_ok-copy.ensures c.in_ok-add.ensures

pub returns : goal.returns
returns g c =
    let xs = g.S.Shelf.items c.args.input.now in
    let places = c.args.classes.now.list.tree.places in
    let all = map (element_at xs) (between places c.span-start.result.0 c.span-start.result.1) in
    let are = members_end xs c.loop-place.members places c.loop-place.place c.span-start.result.1 all c.loop-place.invariant (grind (arith, c.loop-place-test.false)) in
    group_is c.args.classes.now xs c.args.class c.span-start.result.0 c.span-start.result.1 c.loop-place.members c.span-start.ensures are ∙ ap Some (sym c.items.ensures)
