use Rattle.gl_fourcolour.proofs.Outcomes.{reserved}
use Rattle.gl_fourcolour.proofs.runs.Runs.reserve.Goals as goal

pub returns-in-Some-clause-ok : goal.returns-in-Some-clause-ok
returns-in-Some-clause-ok g c =
    let fits = rw c.in-Some.is at c.checked_mul.ensures in
    reserved g.row.C c.args.edits c.in-Some.runs c.self.inside.row c.reserve.new.self c.reserve.result c.self.invariant c.reserve.ensures.runs fits.1 c.reserve.ensures.spare
