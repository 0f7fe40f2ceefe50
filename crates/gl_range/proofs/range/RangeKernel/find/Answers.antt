use Rattle.std.proofs.Common.{arith}
use Rattle.gl_range.proofs.SliceBounds.{view_length, view_past}
use Rattle.gl_range.proofs.range.RangeKernel.find.Goals as goal

pub returns-else-position-len-clause-view : goal.returns-else-position-len-clause-view
returns-else-position-len-clause-view c =
    λ xs stands. view_past c.args.self.now.bounds xs c.args.position
    (grind (arith, c.if-position-len.false, c.len.ensures.view xs stands, view_length c.args.self.now.bounds xs))
