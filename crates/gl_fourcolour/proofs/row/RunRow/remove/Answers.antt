use Rattle.std.proofs.Common.{remove, ap, ◌∙◌}
use Rattle.gl_fourcolour.specs.Rows.{Row}
use Rattle.gl_fourcolour.proofs.Weights.{AreRuns-remove, runs-remove}
use Rattle.gl_fourcolour.proofs.row.RunRow.remove.Goals as goal

pub invariant_of-self : goal.invariant_of-self
invariant_of-self c = rw c.remove_at.ensures.entries (AreRuns-remove _ c.args.position c.self.invariant)

pub returns-clause-runs : goal.returns-clause-runs
returns-clause-runs c =
    let runs_is = ap (λ (x : Row). x.runs) c.self.view_is in
    rw c.remove_at.ensures.entries (runs-remove _ c.args.position ∙ ap (λ xs. remove xs c.args.position) runs_is)
