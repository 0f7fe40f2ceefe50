use Rattle.std.proofs.Common.{sym, arith}
use Rattle.gl_fourcolour.specs.declared.run.Run.{Run}
use Rattle.gl_fourcolour.proofs.Outcomes.{spare_taken, can_insert, kept_put, inserted_none}
use Rattle.gl_fourcolour.proofs.runs.Runs.insert_reserved.Goals as goal

pub returns-then-n-eq0-clause-colours : goal.returns-then-n-eq0-clause-colours
returns-then-n-eq0-clause-colours g c = sym (inserted_none c.args.self.now.colours c.args.at c.args.colour c.args.n c.if-n-eq0.true)

pub put-requires : goal.put-requires
put-requires g c =
    let run : Run = record { colour = c.args.colour; len = c.args.n } in
    let can = can_insert g.row.C c.args.at c.self.inside.row c.args.self.now run c.self.invariant c.self.view_is c.requires.colour (omega (arith, c.if-n-eq0.false)) c.requires.in_range c.requires.small c.requires.has_room in
    can

pub invariant_of-self : goal.invariant_of-self
invariant_of-self g c =
    let run : Run = record { colour = c.args.colour; len = c.args.n } in
    let can = can_insert g.row.C c.args.at c.self.inside.row c.args.self.now run c.self.invariant c.self.view_is c.requires.colour (omega (arith, c.if-n-eq0.false)) c.requires.in_range c.requires.small c.requires.has_room in
    kept_put g.row.C c.args.at c.self.inside.row c.put.new.row run can c.put.ensures

pub returns-clause-spare : goal.returns-clause-spare
returns-clause-spare g c =
    let run : Run = record { colour = c.args.colour; len = c.args.n } in
    let can = can_insert g.row.C c.args.at c.self.inside.row c.args.self.now run c.self.invariant c.self.view_is c.requires.colour (omega (arith, c.if-n-eq0.false)) c.requires.in_range c.requires.small c.requires.has_room in
    spare_taken g.row.C c.self.inside.row c.put.new.row c.args.self.now c.self.invariant c.self.view_is (kept_put g.row.C c.args.at c.self.inside.row c.put.new.row run can c.put.ensures) c.put.ensures.more c.put.ensures.room
