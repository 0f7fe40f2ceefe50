use Rattle.std.proofs.Common.{◌≡◌, length, arith, subst}
use Rattle.gl_graph.specs.Build.{AreOpenTo}
use Rattle.gl_graph.proofs.Starts.{all_open}
use Rattle.gl_graph.proofs.start.open_counted.Goals as goal

pub returns-clause-open : goal.returns-clause-open
returns-clause-open g c =
    let t = c.args.dependency_order.now in
    let end : c.positions.position ≡ length t.order.now = omega (arith, c.positions.auto.position-end, c.positions-test.false) in
    all_open t.limit t.lists.now t.positions.items t.order.now c.positions.nodes.items c.requires.ready
    (subst (λ k. AreOpenTo t k c.positions.nodes.items) end c.positions.invariant)
