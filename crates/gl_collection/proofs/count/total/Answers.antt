use Rattle.std.proofs.Common.{arith}
use Rattle.spec_lang.specs.Kids.{kids}
use Rattle.gl_collection.proofs.Balances.{count_more}
use Rattle.gl_collection.proofs.count.total.Goals as goal

pub elements-preserved : goal.elements-preserved
elements-preserved g c =
    let f = kids c.args.model.now in
    let xs = g.S.Shelf.items c.args.input.now in
    record {
      total = omega (arith, c.elements.invariant.total, c.count.ensures.value, count_more f xs c.elements.position c.element.result.now c.element.ensures);
      few = omega (arith, c.elements.invariant.few, c.count.ensures.few);
    }
