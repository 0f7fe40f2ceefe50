use Rattle.std.proofs.Common.{sym, ◌∙◌, arith, subst}
use Rattle.gl_fourcolour.specs.Rows.{IsSpot}
use Rattle.gl_fourcolour.proofs.Spots.{at_run, run_facts, has_colour}
use Rattle.gl_fourcolour.proofs.Puts.{grown}
use Rattle.gl_fourcolour.proofs.edit.put_between.Goals as goal

pub overflow_add-whole : goal.overflow_add-whole
overflow_add-whole g c =
    let h = has_colour _ _ _ (sym c.in-Some.is ∙ c.run_if.ensures) in
    let a = at_run _ _ _ _ _ (subst (λ r. IsSpot c.args.row.now.runs c.args.at c.args.spot.position c.args.spot.start r) h.is c.requires.spot) in
    let f = run_facts g.row.C _ a.prefix a.rest c.in-Some.here c.requires.can.few_colours c.requires.can.maximal a.is in
    omega (arith, f.size, c.requires.can.small)

pub set-requires : goal.set-requires
set-requires g c =
    let h = has_colour _ _ _ (sym c.in-Some.is ∙ c.run_if.ensures) in
    let a = at_run _ _ _ _ _ (subst (λ r. IsSpot c.args.row.now.runs c.args.at c.args.spot.position c.args.spot.start r) h.is c.requires.spot) in
    let f = run_facts g.row.C _ a.prefix a.rest c.in-Some.here c.requires.can.few_colours c.requires.can.maximal a.is in
    record { in_range = omega (arith, f.within, a.position_is); colour = f.colour; some = omega (arith, f.some); small = omega (arith, f.size, c.requires.can.small) }

pub returns : goal.returns
returns g c =
    let h = has_colour _ _ _ (sym c.in-Some.is ∙ c.run_if.ensures) in
    let a = at_run _ _ _ _ _ (subst (λ r. IsSpot c.args.row.now.runs c.args.at c.args.spot.position c.args.spot.start r) h.is c.requires.spot) in
    let f = run_facts g.row.C _ a.prefix a.rest c.in-Some.here c.requires.can.few_colours c.requires.can.maximal a.is in
    grown g.row.C c.args.at 0 c.args.spot.position c.args.row.now c.set.new.self c.args.run c.in-Some.here a.prefix a.rest c.requires.can a.is a.position_is h.colour_is (omega (arith, f.some)) (omega (arith, a.start_is, c.requires.starts)) c.set.ensures.runs c.set.ensures.room
