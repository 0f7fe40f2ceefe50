use Rattle.std.proofs.Common.{◌∙◌, ◌++◌, map, take, ap, arith}
use Rattle.std.proofs.lemmas.List.{take_all}
use Rattle.spec_sorting.specs.Piece.{inserted, old_len, new_len}
use Rattle.gl_sorted.proofs.Replacement.{values_at, inserted_more, old_both, new_both, few_values}
use Rattle.gl_sorted.proofs.replaced.insert_all.Goals as goal

pub tell-requires : goal.tell-requires
tell-requires g c =
    let xs = g.S.Shelf.items c.args.input.now in
    let is = c.args.list.now.tree.places in
    let i = c.loop-place.invariant in
    let vs = values_at xs (take c.loop-place.place is) in
    record {
      olds = omega (arith, ap old_len i.told, old_both c.args.out.now.pieces vs, c.requires.olds);
      news = omega (arith, ap new_len i.told, new_both c.args.out.now.pieces vs c.requires.start, few_values xs is c.loop-place.place i.within, c.loop-place-test.true, i.end, c.requires.all, c.requires.few);
    }

pub loop-place-preserved : goal.loop-place-preserved
loop-place-preserved g c =
    let xs = g.S.Shelf.items c.args.input.now in
    let i = c.loop-place.invariant in
    record {
      within = omega (arith, c.loop-place-test.true, i.end);
      end = i.end;
      told = inserted_more c.args.out.now.pieces xs c.args.list.now.tree.places c.loop-place.place c.source_of.result c.element-value.result.now c.in_ok-copy.field-0 c.loop-place.out.pieces c.tell.new.out.pieces c.requires.start i.told c.source_of.ensures.at c.element-value.ensures c.in_ok-copy.ensures c.in_ok-tell.ensures;
    }

pub returns : goal.returns
returns g c =
    let xs = g.S.Shelf.items c.args.input.now in
    let i = c.loop-place.invariant in
    i.told ∙ ap (λ is. c.args.out.now.pieces ++ map inserted (values_at xs is)) (take_all c.loop-place.place c.args.list.now.tree.places (omega (arith, c.loop-place-test.false, i.end)))
