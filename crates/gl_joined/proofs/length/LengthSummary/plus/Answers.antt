use Rattle.std.proofs.Common.{arith}
use Rattle.gl_joined.specs.Length.{plus_length}
use Rattle.gl_joined.specs.Sums.{length_same, fits-below}
use Rattle.gl_joined.proofs.length.LengthSummary.plus.Goals as goal

pub returns : goal.returns
returns c =
    λ fits.
    let below = fits-below (plus_length c.args.self c.args.other) fits in
    length_same _ _ (omega (arith, below)) (omega (arith, below))
