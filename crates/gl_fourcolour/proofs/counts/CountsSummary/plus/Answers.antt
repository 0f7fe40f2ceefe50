use Rattle.std.proofs.Common.{arith}
use Rattle.gl_fourcolour.specs.Counts.{plus_counts}
use Rattle.gl_fourcolour.specs.Sums.{counts_same, fits-below}
use Rattle.gl_fourcolour.proofs.counts.CountsSummary.plus.Goals as goal

pub returns : goal.returns
returns c =
    λ fits.
    let below = fits-below (plus_counts c.args.self c.args.other) fits in
    counts_same _ _ (omega (arith, below)) (omega (arith, below)) (omega (arith, below)) (omega (arith, below))
