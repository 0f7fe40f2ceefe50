use Rattle.std.proofs.Common.{insert, ap, ◌∙◌}
use Rattle.gl_fourcolour.specs.Rows.{Row}
use Rattle.gl_fourcolour.proofs.Weights.{AreRuns-insert, runs-insert}
use Rattle.gl_fourcolour.proofs.row.RunRow.insert.Goals as goal

pub invariant_of-self : goal.invariant_of-self
invariant_of-self c = rw (c.insert_reserved.ensures.entries, c.counts_of.ensures) (AreRuns-insert _ _ _ c.args.run c.requires.colour c.requires.some c.self.invariant)

pub returns-clause-runs : goal.returns-clause-runs
returns-clause-runs c =
    let runs_is = ap (λ (x : Row). x.runs) c.self.view_is in
    rw (c.insert_reserved.ensures.entries, c.counts_of.ensures) (runs-insert _ _ _ c.args.run c.requires.colour c.requires.some ∙ ap (λ xs. insert xs c.args.position c.args.run) runs_is)
