use Rattle.std.proofs.Common.{◌<◌, length, get_or, slice_index, refl, arith}
use Rattle.gl_publisher.proofs.Counts.{count_left}
use Rattle.gl_publisher.proofs.waiting.release.Goals as goal

pub overflow_sub-count : goal.overflow_sub-count
overflow_sub-count c =
    let xs = c.args.pairs.now in
    let i = c.loop-dependent.dependent-index in
    let a = (get_or xs i (0, 0)).1 in
    let counts = c.loop-dependent.counts in
    let a_in : a < length counts.items = omega (arith, counts.ok.0, c.requires.within i (0, 0) c.loop-dependent-test.true) in
    count_left xs counts.items i a c.index.result.now (slice_index c.args.counts.now.items a) (0, 0) c.loop-dependent-test.true a_in refl c.index.ensures (c.loop-dependent.invariant.counted a) (c.requires.counted a)
