use Rattle.std.proofs.Common.{◌≡◌, ap, ◌∙◌, arith}
use Rattle.gl_fourcolour.specs.Rows.{Row}
use Rattle.gl_fourcolour.specs.Counts.{total_of, weigh, sum_of, runs_of}
use Rattle.gl_fourcolour.specs.Sums.{below-fits}
use Rattle.gl_fourcolour.proofs.Weights.{sum-entries}
use Rattle.gl_fourcolour.proofs.row.RunRow.weight.Goals as goal

pub returns : goal.returns
returns c =
    let runs_is : runs_of c.self.inside.tree.entries ≡ c.args.self.now.runs = ap (λ (x : Row). x.runs) c.self.view_is in
    let sum_is = sum-entries c.self.inside.tree.entries c.self.invariant ∙ ap sum_of runs_is in
    let fits = below-fits _ (omega (arith, c.requires, ap total_of sum_is)) in
    c.of.ensures ∙ ap (weigh c.args.mask.bits) (c.sum.ensures fits ∙ sum_is)
