use Rattle.std.proofs.Common.{◌+◌, ◌-◌, length, ap, ◌∙◌, arith}
use Rattle.std.proofs.lemmas.List.{length-set}
use Rattle.std.proofs.lemmas.List.Edits.{length-insert}
use Rattle.gl_fourcolour.specs.declared.run.Run.{Run}
use Rattle.gl_fourcolour.proofs.Spots.{at_run, run_facts}
use Rattle.gl_fourcolour.proofs.Puts.{grown, split_run, split_done}
use Rattle.gl_fourcolour.proofs.edit.put_within.Goals as goal

pub overflow_add-whole : goal.overflow_add-whole
overflow_add-whole g c =
    let a = at_run _ _ _ _ _ c.requires.spot in
    let f = run_facts g.row.C _ a.prefix a.rest c.args.here c.requires.can.few_colours c.requires.can.maximal a.is in
    omega (arith, f.size, c.requires.can.small)

pub set-requires : goal.set-requires
set-requires g c =
    let a = at_run _ _ _ _ _ c.requires.spot in
    let f = run_facts g.row.C _ a.prefix a.rest c.args.here c.requires.can.few_colours c.requires.can.maximal a.is in
    record { in_range = omega (arith, f.within, a.position_is); colour = f.colour; some = omega (arith, f.some); small = omega (arith, f.size, c.requires.can.small) }

pub returns-then-here-run : goal.returns-then-here-run
returns-then-here-run g c =
    let a = at_run _ _ _ _ _ c.requires.spot in
    grown g.row.C c.args.at (c.args.at - c.args.spot.start) c.args.spot.position c.args.row.now c.set.new.self c.args.run c.args.here a.prefix a.rest c.requires.can a.is a.position_is c.if-here-run.true (omega (arith, a.inside)) (omega (arith, a.start_is, a.reached)) c.set.ensures.runs c.set.ensures.room

pub set-requires-2 : goal.set-requires-2
set-requires-2 g c =
    let a = at_run _ _ _ _ _ c.requires.spot in
    let f = run_facts g.row.C _ a.prefix a.rest c.args.here c.requires.can.few_colours c.requires.can.maximal a.is in
    record { in_range = omega (arith, f.within, a.position_is); colour = f.colour; some = omega (arith, c.requires.within); small = omega (arith, f.size, a.inside, c.requires.can.small) }

pub overflow_add-spot : goal.overflow_add-spot
overflow_add-spot g c =
    let a = at_run _ _ _ _ _ c.requires.spot in
    let f = run_facts g.row.C _ a.prefix a.rest c.args.here c.requires.can.few_colours c.requires.can.maximal a.is in
    let s = split_run g.row.C c.args.at c.args.row.now c.args.run c.args.here a.prefix a.rest c.args.spot.start c.requires.can a.is a.start_is c.requires.within a.inside c.if-here-run.false in
    let left : Run = record { colour = c.args.here.colour; len = c.args.at - c.args.spot.start } in
    let n1 = ap length c.set-2.ensures.runs ∙ length-set c.args.row.now.runs c.args.spot.position left in
    omega (arith, f.within, a.position_is, s.space.few)

pub insert-requires : goal.insert-requires
insert-requires g c =
    let a = at_run _ _ _ _ _ c.requires.spot in
    let f = run_facts g.row.C _ a.prefix a.rest c.args.here c.requires.can.few_colours c.requires.can.maximal a.is in
    let s = split_run g.row.C c.args.at c.args.row.now c.args.run c.args.here a.prefix a.rest c.args.spot.start c.requires.can a.is a.start_is c.requires.within a.inside c.if-here-run.false in
    let left : Run = record { colour = c.args.here.colour; len = c.args.at - c.args.spot.start } in
    let n1 = ap length c.set-2.ensures.runs ∙ length-set c.args.row.now.runs c.args.spot.position left in
    record {
      in_range = omega (arith, n1, f.within, a.position_is);
      few = omega (arith, n1, s.space.few);
      spare = omega (arith, n1, s.space.room, c.set-2.ensures.room);
      colour = omega (arith, c.requires.can.colour, c.requires.can.few_colours);
      some = c.requires.can.some;
      small = omega (arith, c.requires.can.small);
    }

pub overflow_add-spot-2 : goal.overflow_add-spot-2
overflow_add-spot-2 g c =
    let a = at_run _ _ _ _ _ c.requires.spot in
    let f = run_facts g.row.C _ a.prefix a.rest c.args.here c.requires.can.few_colours c.requires.can.maximal a.is in
    let s = split_run g.row.C c.args.at c.args.row.now c.args.run c.args.here a.prefix a.rest c.args.spot.start c.requires.can a.is a.start_is c.requires.within a.inside c.if-here-run.false in
    let left : Run = record { colour = c.args.here.colour; len = c.args.at - c.args.spot.start } in
    let n1 = ap length c.set-2.ensures.runs ∙ length-set c.args.row.now.runs c.args.spot.position left in
    omega (arith, f.within, a.position_is, s.space.few)

pub insert-requires-2 : goal.insert-requires-2
insert-requires-2 g c =
    let a = at_run _ _ _ _ _ c.requires.spot in
    let f = run_facts g.row.C _ a.prefix a.rest c.args.here c.requires.can.few_colours c.requires.can.maximal a.is in
    let s = split_run g.row.C c.args.at c.args.row.now c.args.run c.args.here a.prefix a.rest c.args.spot.start c.requires.can a.is a.start_is c.requires.within a.inside c.if-here-run.false in
    let left : Run = record { colour = c.args.here.colour; len = c.args.at - c.args.spot.start } in
    let n1 = ap length c.set-2.ensures.runs ∙ length-set c.args.row.now.runs c.args.spot.position left in
    let n2 = ap length c.insert.ensures.runs ∙ length-insert c.set-2.new.self.runs (c.args.spot.position + 1) c.args.run (omega (arith, n1, f.within, a.position_is)) in
    record {
      in_range = omega (arith, n2, n1, f.within, a.position_is);
      few = omega (arith, n2, n1, s.space.few);
      spare = omega (arith, n2, n1, s.space.room, c.set-2.ensures.room, c.insert.ensures.room);
      colour = f.colour;
      some = omega (arith, c.requires.within, a.inside);
      small = omega (arith, f.size, c.requires.can.small);
    }

pub returns : goal.returns
returns g c =
    let a = at_run _ _ _ _ _ c.requires.spot in
    let f = run_facts g.row.C _ a.prefix a.rest c.args.here c.requires.can.few_colours c.requires.can.maximal a.is in
    let s = split_run g.row.C c.args.at c.args.row.now c.args.run c.args.here a.prefix a.rest c.args.spot.start c.requires.can a.is a.start_is c.requires.within a.inside c.if-here-run.false in
    let left : Run = record { colour = c.args.here.colour; len = c.args.at - c.args.spot.start } in
    let n1 = ap length c.set-2.ensures.runs ∙ length-set c.args.row.now.runs c.args.spot.position left in
    split_done g.row.C c.args.at c.args.spot.position c.args.row.now c.set-2.new.self c.insert.new.self c.insert-2.new.self c.args.run c.args.here a.prefix a.rest c.args.spot.start a.is a.position_is s c.set-2.ensures.runs c.insert.ensures.runs c.insert-2.ensures.runs c.set-2.ensures.room c.insert.ensures.room c.insert-2.ensures.room
