use Rattle.std.proofs.Common.{arith}
use Rattle.spec_sorting.specs.Piece.{deleted}
use Rattle.gl_grouping.proofs.Replacement.{can_one, one_told, all_told}
use Rattle.gl_grouping.proofs.replaced.delete_all.Goals as goal

pub tell-requires : goal.tell-requires
tell-requires c =
    can_one deleted c.args.groups.now.values c.args.out.now.pieces c.loop-place.out.pieces c.loop-place.place c.loop-place.invariant c.element.result.now c.in_ok-copy.field-0 c.element.ensures c.in_ok-copy.ensures c.requires

pub loop-place-preserved : goal.loop-place-preserved
loop-place-preserved c =
    one_told deleted c.args.groups.now.values c.args.out.now.pieces c.loop-place.out.pieces c.loop-place.place c.loop-place.invariant c.element.result.now c.in_ok-copy.field-0 c.tell.new.out.pieces c.element.ensures c.in_ok-copy.ensures c.in_ok-tell.ensures

pub returns : goal.returns
returns c =
    all_told deleted c.args.groups.now.values c.args.out.now.pieces c.loop-place.out.pieces c.loop-place.place c.loop-place.invariant (grind (arith, c.loop-place-test.false, c.len-place-end.ensures)) c.old_len-normal.ensures.normal
