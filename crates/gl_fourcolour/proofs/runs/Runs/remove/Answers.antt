use Rattle.std.proofs.Common.{length, ap, arith}
use Rattle.gl_fourcolour.proofs.Outcomes.{spare_kept, row_is, kept_cut}
use Rattle.gl_fourcolour.proofs.runs.Runs.remove.Goals as goal

pub invariant_of-self : goal.invariant_of-self
invariant_of-self g c =
    let r = row_is g.row.C c.self.inside.row c.args.self.now c.self.invariant c.self.view_is in
    kept_cut g.row.C c.args.at c.args.n c.self.inside.row c.clear.new.row c.self.invariant (omega (arith, c.requires, ap length r.0)) c.clear.ensures

pub returns-clause-spare : goal.returns-clause-spare
returns-clause-spare g c =
    let r = row_is g.row.C c.self.inside.row c.args.self.now c.self.invariant c.self.view_is in
    let kept = kept_cut g.row.C c.args.at c.args.n c.self.inside.row c.clear.new.row c.self.invariant (omega (arith, c.requires, ap length r.0)) c.clear.ensures in
    spare_kept g.row.C c.self.inside.row c.clear.new.row c.args.self.now c.self.invariant c.self.view_is kept c.clear.ensures.fewer c.clear.ensures.room
