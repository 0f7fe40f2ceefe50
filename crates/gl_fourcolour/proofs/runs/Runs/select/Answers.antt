use Rattle.gl_fourcolour.proofs.Outcomes.{row_is}
use Rattle.gl_fourcolour.proofs.Questions.{counted_some}
use Rattle.gl_fourcolour.proofs.runs.Runs.select.Goals as goal

pub returns-clause-some : goal.returns-clause-some
returns-clause-some g c =
    let r = row_is g.row.C c.self.inside.row c.args.self.now c.self.invariant c.self.view_is in
    counted_some c.args.colours c.args.k _ _ c.select.result r.0 c.select.ensures
