use Rattle.std.proofs.Common.{refl, arith}
use Rattle.spec_sorting.specs.Leads.{undone}
use Rattle.spec_classes.specs.Told.{unique_piece}
use Rattle.gl_unique.proofs.Steps.{begins, is_next, can_read, can_next, few_olds, few_news, goes_on, last_within, can_last, told_all}
use Rattle.gl_unique.proofs.told.told.Goals as goal

pub loop-index-init : goal.loop-index-init
loop-index-init g c =
    let d = c.args.d.now.pieces in
    let ys = g.S.Shelf.items c.args.input.now in
    record {
      within = omega arith;
      end = refl;
      told = begins d ys c.args.olds c.args.slots.now c.start-out.result.pieces c.start-at.result c.requires c.start-out.ensures c.start-at.ensures.olds c.start-at.ensures.news;
    }

pub tell_next-requires-clause-next : goal.tell_next-requires-clause-next
tell_next-requires-clause-next g c =
    let d = c.args.d.now.pieces in
    let ys = g.S.Shelf.items c.args.input.now in
    is_next (unique_piece (undone d ys) ys) d ys c.args.olds c.args.slots.now c.loop-index.out.pieces c.loop-index.at c.loop-index.index
    (omega (arith, c.loop-index-test.true, c.loop-index.invariant.end)) c.loop-index.invariant.told

pub tell_next-requires-clause-few_olds : goal.tell_next-requires-clause-few_olds
tell_next-requires-clause-few_olds g c =
    let d = c.args.d.now.pieces in
    let ys = g.S.Shelf.items c.args.input.now in
    few_olds (unique_piece (undone d ys) ys) d ys c.args.olds c.args.slots.now c.loop-index.out.pieces c.loop-index.at c.loop-index.index
    (omega (arith, c.loop-index-test.true, c.loop-index.invariant.end)) c.loop-index.invariant.told c.requires.few_olds

pub tell_next-requires-clause-few_news : goal.tell_next-requires-clause-few_news
tell_next-requires-clause-few_news g c =
    let d = c.args.d.now.pieces in
    let ys = g.S.Shelf.items c.args.input.now in
    few_news (unique_piece (undone d ys) ys) d ys c.args.olds c.args.slots.now c.loop-index.out.pieces c.loop-index.at c.loop-index.index
    (omega (arith, c.loop-index-test.true, c.loop-index.invariant.end)) c.loop-index.invariant.told

pub tell_next-requires-clause-read : goal.tell_next-requires-clause-read
tell_next-requires-clause-read g c =
    let d = c.args.d.now.pieces in
    let ys = g.S.Shelf.items c.args.input.now in
    can_read (unique_piece (undone d ys) ys) d ys c.args.olds c.args.slots.now c.loop-index.out.pieces c.loop-index.at c.loop-index.index
    (omega (arith, c.loop-index-test.true, c.loop-index.invariant.end)) c.loop-index.invariant.told

pub tell_next-requires-clause-can : goal.tell_next-requires-clause-can
tell_next-requires-clause-can g c =
    let d = c.args.d.now.pieces in
    let ys = g.S.Shelf.items c.args.input.now in
    can_next (unique_piece (undone d ys) ys) d ys c.args.olds c.args.slots.now c.loop-index.out.pieces c.loop-index.at c.loop-index.index
    (omega (arith, c.loop-index-test.true, c.loop-index.invariant.end)) c.loop-index.invariant.told c.requires.can

pub loop-index-preserved : goal.loop-index-preserved
loop-index-preserved g c =
    let d = c.args.d.now.pieces in
    let ys = g.S.Shelf.items c.args.input.now in
    let i = c.loop-index.invariant in
    let ens = c.in_ok-at.ensures in
    record {
      within = omega (arith, c.loop-index-test.true, i.end);
      end = i.end;
      told = goes_on (unique_piece (undone d ys) ys) d ys c.args.olds c.args.slots.now c.loop-index.out.pieces c.loop-index.at c.loop-index.index
          (omega (arith, c.loop-index-test.true, i.end)) i.told c.tell_next.new.out.pieces c.in_ok-at.at ens.out ens.olds ens.news;
    }

pub overflow_sub-olds : goal.overflow_sub-olds
overflow_sub-olds g c =
    let d = c.args.d.now.pieces in
    let ys = g.S.Shelf.items c.args.input.now in
    last_within (unique_piece (undone d ys) ys) d ys c.args.olds c.args.slots.now c.loop-index.out.pieces c.loop-index.at c.loop-index.index
    (omega (arith, c.loop-index-test.false, c.loop-index.invariant.end)) c.loop-index.invariant.told

pub tell-requires : goal.tell-requires
tell-requires g c =
    let d = c.args.d.now.pieces in
    let ys = g.S.Shelf.items c.args.input.now in
    can_last (unique_piece (undone d ys) ys) d ys c.args.olds c.args.slots.now c.loop-index.out.pieces c.loop-index.at c.loop-index.index
    (omega (arith, c.loop-index-test.false, c.loop-index.invariant.end)) c.loop-index.invariant.told c.requires.can

pub returns : goal.returns
returns g c =
    let d = c.args.d.now.pieces in
    let ys = g.S.Shelf.items c.args.input.now in
    told_all (unique_piece (undone d ys) ys) d ys c.args.olds c.args.slots.now c.loop-index.out.pieces c.loop-index.at c.loop-index.index
    (omega (arith, c.loop-index-test.false, c.loop-index.invariant.end)) c.loop-index.invariant.told c.tell.new.out.pieces c.in_ok-tell.ensures
