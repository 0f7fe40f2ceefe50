use Rattle.std.proofs.Common.{◌≡◌, ◌∙◌, ◌≤◌, length, sym, arith}
use Rattle.gl_grouping.specs.Following.{groups_of}
use Rattle.gl_grouping.proofs.Groups.{many_groups, few_groups, groups_more, groups_long}
use Rattle.gl_grouping.proofs.group.all_groups.Goals as goal

pub reserve-requires : goal.reserve-requires
reserve-requires g c =
    let k = c.args.classes.now in
    let xs = g.S.Shelf.items c.args.input.now in
    omega (arith, c.len.ensures.classes xs c.requires.stands, many_groups k xs, few_groups k xs, c.requires.few)

pub insert-requires-clause-fits : goal.insert-requires-clause-fits
insert-requires-clause-fits g c =
    let k = c.args.classes.now in
    let xs = g.S.Shelf.items c.args.input.now in
    let all = groups_of k xs in
    let long = groups_long all c.loop-class.groups.values c.loop-class.class c.in_ok-group.group c.loop-class.invariant.values
    (omega (arith, c.loop-class-test.true, c.len-class-end.ensures.classes xs c.requires.stands, many_groups k xs)) in
    record {
      fits = omega (arith, long, c.loop-class.invariant.room, c.loop-class-test.true, c.len-class-end.ensures.classes xs c.requires.stands, many_groups k xs);
      few = omega (arith, long, c.loop-class-test.true, c.len-class-end.ensures.classes xs c.requires.stands, many_groups k xs, few_groups k xs, c.requires.few);
    }

pub loop-class-preserved : goal.loop-class-preserved
loop-class-preserved g c =
    let k = c.args.classes.now in
    let xs = g.S.Shelf.items c.args.input.now in
    record {
      values = c.insert.ensures.items ∙ groups_more (groups_of k xs) c.loop-class.groups.values c.loop-class.class c.in_ok-group.group c.loop-class.invariant.values c.in_ok-group.ensures;
      room = omega (arith, c.loop-class.invariant.room, c.insert.ensures.room);
    }
