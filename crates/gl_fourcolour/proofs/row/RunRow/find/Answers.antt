use Rattle.std.proofs.Common.{ap, arith, subst}
use Rattle.gl_fourcolour.specs.Rows.{Row}
use Rattle.gl_fourcolour.specs.Counts.{total_of, sum_of, IsFound}
use Rattle.gl_fourcolour.specs.Sums.{below-fits}
use Rattle.gl_fourcolour.proofs.Weights.{sum-entries, found}
use Rattle.gl_fourcolour.proofs.row.RunRow.find.Goals as goal

pub seek-sought-requires : goal.seek-sought-requires
seek-sought-requires c =
    let runs_is = ap (λ (x : Row). x.runs) c.self.view_is in
    below-fits _ (omega (arith, c.requires, ap total_of (sum-entries c.self.inside.tree.entries c.self.invariant), ap (λ rs. total_of (sum_of rs)) runs_is))

pub returns : goal.returns
returns c =
    let runs_is = ap (λ (x : Row). x.runs) c.self.view_is in
    subst (λ rs. IsFound c.args.mask.bits c.args.k rs c.seek-sought.result.position c.seek-sought.result.before c.run_from.result) runs_is (found c.args.mask.bits c.args.k _ c.self.inside.tree.entries _ _ _ c.self.invariant c.seek-sought.ensures c.run_from.ensures)
