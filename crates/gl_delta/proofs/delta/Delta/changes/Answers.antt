use Rattle.std.proofs.Common.{arith}
use Rattle.gl_delta.specs.Pieces.{pieces}
use Rattle.gl_delta.proofs.CellRuns.{changed_few}
use Rattle.gl_delta.proofs.Cuts.{length_few}
use Rattle.gl_delta.proofs.delta.Delta.changes.Goals as goal

pub returns-clause-few : goal.returns-clause-few
returns-clause-few c =
    let ps = pieces c.self.inside.store in
    omega (arith, changed_few ps, length_few ps, c.self.invariant.olds_is, c.self.invariant.news_is, c.self.invariant.olds_few, c.self.invariant.news_few, c.changes.ensures)
