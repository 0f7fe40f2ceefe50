use Rattle.std.proofs.Common.{◌+◌, refl, arith}
use Rattle.gl_classes.specs.declared.slots.Cursor.{Cursor}
use Rattle.gl_classes.proofs.WalkSteps.{passed, few_old}
use Rattle.gl_classes.proofs.slots.pass.Goals as goal

pub overflow_add-result : goal.overflow_add-result
overflow_add-result g c =
    let ys = g.S.Shelf.items c.args.input.now in
    let a : Cursor = c.args.at in
    let n = c.fewer-kept.result in
    let b : Cursor = record { olds = a.olds + n; news = a.news + n; gone = a.gone; came = a.came } in
    let p = passed c.args.classes.now ys c.args.d.now.pieces c.args.olds.now c.args.news.now a c.requires.walks c.gap-to_old.result c.gap-to_new.result n b c.requires.more (c.gap-to_old.ensures, c.gap-to_new.ensures) c.fewer-kept.ensures (refl, refl) (refl, refl) in
    let most = p.at_next.old_in in
    let few = few_old c.args.classes.now ys c.args.d.now.pieces c.args.olds.now c.args.news.now a c.requires.walks in
    omega (arith, most, few, c.old_len-olds.ensures.value, c.old_len-olds.ensures.few)

pub overflow_add-result-2 : goal.overflow_add-result-2
overflow_add-result-2 g c =
    let ys = g.S.Shelf.items c.args.input.now in
    let a : Cursor = c.args.at in
    let n = c.fewer-kept.result in
    let b : Cursor = record { olds = a.olds + n; news = a.news + n; gone = a.gone; came = a.came } in
    let p = passed c.args.classes.now ys c.args.d.now.pieces c.args.olds.now c.args.news.now a c.requires.walks c.gap-to_old.result c.gap-to_new.result n b c.requires.more (c.gap-to_old.ensures, c.gap-to_new.ensures) c.fewer-kept.ensures (refl, refl) (refl, refl) in
    let most = p.at_next.new_in in
    omega (arith, most, c.len-news.ensures.classes ys c.requires.walks.stands, c.len-news.type_inv)

pub returns : goal.returns
returns g c =
    let ys = g.S.Shelf.items c.args.input.now in
    let a : Cursor = c.args.at in
    let n = c.fewer-kept.result in
    let b : Cursor = record { olds = a.olds + n; news = a.news + n; gone = a.gone; came = a.came } in
    passed c.args.classes.now ys c.args.d.now.pieces c.args.olds.now c.args.news.now a c.requires.walks c.gap-to_old.result c.gap-to_new.result n b c.requires.more (c.gap-to_old.ensures, c.gap-to_new.ensures) c.fewer-kept.ensures (refl, refl) (refl, refl)
