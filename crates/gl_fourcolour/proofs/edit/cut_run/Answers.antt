use Rattle.std.proofs.Common.{arith}
use Rattle.gl_fourcolour.proofs.Spots.{at_run, run_facts}
use Rattle.gl_fourcolour.proofs.Removals.{cut_done, whole_done}
use Rattle.gl_fourcolour.proofs.edit.cut_run.Goals as goal

pub set-requires : goal.set-requires
set-requires g c =
    let a = at_run _ _ _ _ _ c.requires.spot in
    let f = run_facts g.row.C _ a.prefix a.rest c.args.here c.requires.can.few_colours c.requires.can.maximal a.is in
    record { in_range = omega (arith, f.within, a.position_is); colour = f.colour; some = omega (arith, c.if-taken-here.true); small = omega (arith, f.size, c.requires.can.small) }

pub returns-then-taken-here-clause-cuts : goal.returns-then-taken-here-clause-cuts
returns-then-taken-here-clause-cuts g c =
    let a = at_run _ _ _ _ _ c.requires.spot in
    let f = run_facts g.row.C _ a.prefix a.rest c.args.here c.requires.can.few_colours c.requires.can.maximal a.is in
    cut_done g.row.C c.args.at c.args.n c.args.spot.position c.args.spot.start c.min-taken.result c.args.row.now c.set.new.self c.args.here c.requires.can a (omega (arith, c.min-taken.ensures)) c.if-taken-here.true c.set.ensures.runs c.set.ensures.room

pub returns-clause-cuts : goal.returns-clause-cuts
returns-clause-cuts g c =
    let a = at_run _ _ _ _ _ c.requires.spot in
    let f = run_facts g.row.C _ a.prefix a.rest c.args.here c.requires.can.few_colours c.requires.can.maximal a.is in
    whole_done g.row.C c.args.at c.args.n c.args.spot.position c.args.spot.start c.min-taken.result c.args.row.now c.take_out.new.row c.args.here c.requires.can a (omega (arith, c.min-taken.ensures)) c.if-taken-here.false (c.take_out.ensures a.prefix a.rest c.args.here a.is a.position_is)
