use Rattle.std.proofs.Common.{◌≡◌, ◌∙◌, ◌+◌, suc, map, take, ap, arith}
use Rattle.spec_lang.specs.Func.{eval}
use Rattle.gl_kernel.proofs.Made.{made_more}
use Rattle.gl_function.proofs.function.Function.make.Goals as goal

pub loop-position-preserved : goal.loop-position-preserved
loop-position-preserved g c =
    let f = eval c.args.param in
    let xs = g.S.Shelf.items c.args.input.now in
    let position = c.loop-position.position in
    let next : suc position ≡ position + 1 = omega arith in
    record {
      values = c.insert.ensures.items
          ∙ (made_more f xs c.loop-position.results.values position c.element.result.now c.in_ok-result.result c.loop-position.invariant.values c.element.ensures c.in_ok-result.ensures
          ∙ ap (λ n. map f (take n xs)) next);
      room = omega (arith, c.loop-position.invariant.room, c.insert.ensures.room);
    }
