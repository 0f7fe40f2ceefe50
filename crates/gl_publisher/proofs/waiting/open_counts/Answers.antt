use Rattle.std.proofs.Common.{◌<◌, ◌==◌, length, get_or, arith}
use Rattle.gl_publisher.proofs.Counts.{count_fits}
use Rattle.gl_publisher.proofs.waiting.open_counts.Goals as goal

pub overflow_add-index_mut : goal.overflow_add-index_mut
overflow_add-index_mut c =
    let xs = c.args.edges.now in
    let i = c.loop-dependent.dependent-index in
    let a = (get_or xs i (0, 0)).0 in
    let counts = c.loop-dependent.counts in
    let a_in : a < length counts.items = omega (arith, counts.ok.0, c.requires i (0, 0) c.loop-dependent-test.true) in
    omega (arith, count_fits (λ e. e.0 == a) xs counts.items i a c.index_mut.result.now c.loop-dependent-test.true a_in c.index_mut.ensures.value (c.loop-dependent.invariant.counted a))
