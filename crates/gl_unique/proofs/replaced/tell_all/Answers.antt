use Rattle.std.proofs.Common.{◌∙◌, ap, sym, arith, append-nil}
use Rattle.std.proofs.lemmas.List.{length-map}
use Rattle.spec_sorting.specs.Piece.{normal}
use Rattle.spec_sorting.proofs.Normal.{normal_is}
use Rattle.spec_classes.specs.Classes.{classes}
use Rattle.spec_classes.specs.Unique.{shown_member, unique_view}
use Rattle.gl_classes.specs.Sorting.{order_cmp}
use Rattle.gl_unique.proofs.Replacements.{can_one, told_one, told_last}
use Rattle.gl_unique.proofs.replaced.tell_all.Goals as goal

pub loop-class-init : goal.loop-class-init
loop-class-init g c =
    let ys = g.S.Shelf.items c.args.input.now in
    let compare = order_cmp c.args.classes.now.list.order in
    record {
      within = omega arith;
      end = c.len-class-end.ensures.classes ys c.requires.stands ∙ sym (length-map (classes compare ys) (shown_member ys));
      told = sym (ap normal (append-nil c.args.out.now.pieces) ∙ normal_is c.args.out.now.pieces c.old_len-olds.ensures.normal);
    }

pub shown-requires-clause-within : goal.shown-requires-clause-within
shown-requires-clause-within g c = omega (arith, c.loop-class-test.true, c.loop-class.invariant.end)

pub tell_turned-requires : goal.tell_turned-requires
tell_turned-requires g c =
    let ys = g.S.Shelf.items c.args.input.now in
    let view = unique_view (order_cmp c.args.classes.now.list.order) ys in
    can_one c.args.were view c.args.out.now.pieces c.loop-class.out.pieces c.loop-class.class c.shown.result.now c.loop-class.invariant.told c.shown.ensures c.requires.can

pub loop-class-preserved : goal.loop-class-preserved
loop-class-preserved g c =
    let ys = g.S.Shelf.items c.args.input.now in
    let view = unique_view (order_cmp c.args.classes.now.list.order) ys in
    let i = c.loop-class.invariant in
    record {
      within = omega (arith, c.loop-class-test.true, i.end);
      end = i.end;
      told = told_one c.args.were view c.args.out.now.pieces c.loop-class.out.pieces c.loop-class.class c.shown.result.now i.told c.shown.ensures c.tell_turned.new.out.pieces c.in_ok-tell_turned.ensures;
    }

pub returns : goal.returns
returns g c =
    let ys = g.S.Shelf.items c.args.input.now in
    let i = c.loop-class.invariant in
    told_last c.args.were (unique_view (order_cmp c.args.classes.now.list.order) ys) c.args.out.now.pieces c.loop-class.out.pieces c.loop-class.class
    (omega (arith, c.loop-class-test.false, i.end)) i.told
