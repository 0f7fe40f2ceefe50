use Rattle.std.proofs.Common.{◌≡◌, ◌≤◌, ◌∙◌, ◌+◌, suc, length, map, take, ap, arith}
use Rattle.spec_lang.specs.Kids.{kids}
use Rattle.gl_kernel.proofs.Made.{made_more}
use Rattle.gl_collection.specs.Told.{child_len}
use Rattle.gl_collection.proofs.Balances.{child_within, counted_sum}
use Rattle.gl_collection.proofs.collection.Collection.counted.Goals as goal

pub overflow_cast-len : goal.overflow_cast-len
overflow_cast-len g c =
    let f = kids c.args.model in
    omega (arith, c.count-len.ensures.value, child_within f (g.S.Shelf.items c.args.input.now) c.elements.position c.element.result.now c.element.ensures, c.requires.within, c.requires.few)

pub elements-preserved : goal.elements-preserved
elements-preserved g c =
    let f = kids c.args.model in
    let xs = g.S.Shelf.items c.args.input.now in
    let position = c.elements.position in
    let next : suc position ≡ position + 1 = omega arith in
    record {
      lens = c.insert.ensures.items
          ∙ (made_more (child_len f) xs c.elements.lens.lens position c.element.result.now c.count-len.result c.elements.invariant.lens c.element.ensures c.count-len.ensures.value
          ∙ ap (λ n. map (child_len f) (take n xs)) next);
      room = omega (arith, c.elements.invariant.room, c.insert.ensures.room);
    }

pub invariant_of-result : goal.invariant_of-result
invariant_of-result g c =
    let f = kids c.args.model in
    let xs = g.S.Shelf.items c.args.input.now in
    let later : length xs ≤ c.elements.position = grind (arith, c.elements-test.false, c.len-position-end.ensures) in
    record {
      within = omega (arith, counted_sum f xs c.elements.lens.lens c.elements.position c.elements.invariant.lens later, c.requires.within);
      few = c.requires.few;
    }
