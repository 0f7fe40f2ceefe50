use Rattle.std.proofs.Common.{ap, ◌∙◌, arith}
use Rattle.gl_fourcolour.specs.Rows.{Row}
use Rattle.gl_fourcolour.specs.Counts.{total_of, sum_of}
use Rattle.gl_fourcolour.specs.Sums.{below-fits}
use Rattle.gl_fourcolour.proofs.Weights.{sum-entries}
use Rattle.gl_fourcolour.proofs.row.RunRow.positions.Goals as goal

pub returns : goal.returns
returns c =
    let runs_is = ap (λ (x : Row). x.runs) c.self.view_is in
    let sum_is = ap total_of (sum-entries c.self.inside.tree.entries c.self.invariant) ∙ ap (λ rs. total_of (sum_of rs)) runs_is in
    let fits = below-fits _ (omega (arith, c.requires, sum_is)) in
    c.total.ensures ∙ (ap total_of (c.sum.ensures fits) ∙ sum_is)
