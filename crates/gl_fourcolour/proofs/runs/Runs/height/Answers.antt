use Rattle.std.proofs.Common.{arith}
use Rattle.gl_fourcolour.proofs.Outcomes.{row_is}
use Rattle.gl_fourcolour.proofs.runs.Runs.height.Goals as goal

pub returns : goal.returns
returns g c =
    let r = row_is g.row.C c.self.inside.row c.args.self.now c.self.invariant c.self.view_is in
    record { deep = omega (arith, c.height.ensures.deep, r.2); shallow = λ digits few. c.height.ensures.shallow digits (omega (arith, few, r.2)) }
