use Rattle.std.proofs.Common.{◌≡◌, ◌+◌, suc, length, subst, arith}
use Rattle.gl_graph.specs.Causes.{cause_of}
use Rattle.gl_graph.specs.Spread.{IsSpread}
use Rattle.gl_graph.proofs.spread.spread_all.Goals as goal

pub positions-preserved : goal.positions-preserved
positions-preserved g c =
    let next : suc c.positions.position ≡ c.positions.position + 1 = omega arith in
    let old = c.args.nodes.now.items in
    record {
      within = omega (arith, c.positions-test.true, c.len-position-end.ensures);
      spread = subst (λ p. IsSpread c.args.limit old c.args.positions.now (cause_of c.args.cause.now) c.args.rollback.now p c.spread_at.new.nodes.items c.spread_at.new.deltas c.spread_at.new.made.items) next
          (c.in_ok-spread_at.ensures.spread old c.positions.invariant.spread);
    }

pub returns-clause-spread : goal.returns-clause-spread
returns-clause-spread g c =
    let old = c.args.nodes.now.items in
    let all : c.positions.position ≡ length old = omega (arith, c.positions-test.false, c.positions.invariant.within, c.len-position-end.ensures) in
    subst (λ p. IsSpread c.args.limit old c.args.positions.now (cause_of c.args.cause.now) c.args.rollback.now p c.positions.nodes.items c.positions.deltas c.positions.made.items) all c.positions.invariant.spread
