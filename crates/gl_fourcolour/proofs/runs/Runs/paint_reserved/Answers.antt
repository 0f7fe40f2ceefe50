use Rattle.std.proofs.Common.{length, sym, ap, ◌∙◌, arith}
use Rattle.gl_fourcolour.specs.Colours.{inserted, painted}
use Rattle.gl_fourcolour.specs.Rows.{expanded}
use Rattle.gl_fourcolour.specs.declared.run.Run.{Run}
use Rattle.gl_fourcolour.proofs.Outcomes.{spare_taken, row_is, can_paint, kept_put, painted_none, painted_is}
use Rattle.gl_fourcolour.proofs.runs.Runs.paint_reserved.Goals as goal

pub returns-then-n-eq0-clause-colours : goal.returns-then-n-eq0-clause-colours
returns-then-n-eq0-clause-colours g c = sym (painted_none c.args.self.now.colours c.args.at c.args.colour c.args.n c.if-n-eq0.true)

pub put-requires : goal.put-requires
put-requires g c =
    let run : Run = record { colour = c.args.colour; len = c.args.n } in
    let can = can_paint g.row.C c.args.at c.self.inside.row c.clear.new.row c.args.self.now run c.self.invariant c.self.view_is c.requires.colour (omega (arith, c.if-n-eq0.false)) c.requires.in_range c.requires.has_room c.clear.ensures in
    can

pub invariant_of-self : goal.invariant_of-self
invariant_of-self g c =
    let run : Run = record { colour = c.args.colour; len = c.args.n } in
    let can = can_paint g.row.C c.args.at c.self.inside.row c.clear.new.row c.args.self.now run c.self.invariant c.self.view_is c.requires.colour (omega (arith, c.if-n-eq0.false)) c.requires.in_range c.requires.has_room c.clear.ensures in
    kept_put g.row.C c.args.at c.clear.new.row c.put.new.row run can c.put.ensures

pub returns-clause-colours : goal.returns-clause-colours
returns-clause-colours g c =
    let r = row_is g.row.C c.self.inside.row c.args.self.now c.self.invariant c.self.view_is in
    let at = c.args.at in
    c.put.ensures.colours ∙ (ap (λ xs. inserted xs at c.args.colour c.args.n) c.clear.ensures.colours ∙ (painted_is (expanded c.self.inside.row.runs) at c.args.n c.args.colour (omega (arith, c.requires.in_range, ap length r.0)) ∙ ap (λ xs. painted xs at c.args.n c.args.colour) r.0))

pub returns-clause-spare : goal.returns-clause-spare
returns-clause-spare g c =
    let run : Run = record { colour = c.args.colour; len = c.args.n } in
    let can = can_paint g.row.C c.args.at c.self.inside.row c.clear.new.row c.args.self.now run c.self.invariant c.self.view_is c.requires.colour (omega (arith, c.if-n-eq0.false)) c.requires.in_range c.requires.has_room c.clear.ensures in
    spare_taken g.row.C c.self.inside.row c.put.new.row c.args.self.now c.self.invariant c.self.view_is (kept_put g.row.C c.args.at c.clear.new.row c.put.new.row run can c.put.ensures) (omega (arith, c.put.ensures.more, c.clear.ensures.fewer)) (c.put.ensures.room ∙ c.clear.ensures.room)
