use Rattle.std.proofs.Common.{◌∙◌, suc, refl, ap, sym, arith}
use Rattle.gl_classes.specs.Sides.{alone}
use Rattle.gl_classes.specs.declared.slots.Cursor.{Cursor}
use Rattle.gl_classes.proofs.WalkSteps.{told_goes, told_comes, few_old}
use Rattle.gl_classes.proofs.slots.next_slot.Goals as goal

pub overflow_add-next : goal.overflow_add-next
overflow_add-next g c =
    let ys = g.S.Shelf.items c.args.input.now in
    let a : Cursor = c.args.at in
    let b : Cursor = record { olds = suc a.olds; news = a.news; gone = suc a.gone; came = a.came } in
    let t = told_goes c.args.classes.now ys c.args.d.now.pieces c.args.olds.now c.args.news.now a c.requires.walks c.in-Some.first b
    (sym (c.alone.ensures ∙ ap alone c.next_at-gone.ensures) ∙ c.in-Some.is) (refl, refl) (refl, refl) in
    let most = t.at_next.old_in in
    let few = few_old c.args.classes.now ys c.args.d.now.pieces c.args.olds.now c.args.news.now a c.requires.walks in
    omega (arith, most, few, c.old_len-olds.ensures.value, c.old_len-olds.ensures.few)

pub overflow_add-next-in-Some-alone : goal.overflow_add-next-in-Some-alone
overflow_add-next-in-Some-alone g c =
    let ys = g.S.Shelf.items c.args.input.now in
    let a : Cursor = c.args.at in
    let b : Cursor = record { olds = a.olds; news = suc a.news; gone = a.gone; came = suc a.came } in
    let t = told_comes c.args.classes.now ys c.args.d.now.pieces c.args.olds.now c.args.news.now a c.requires.walks c.in-Some-alone.first b
    (sym (c.alone.ensures ∙ ap alone c.next_at-gone.ensures) ∙ c.in-None.is) (sym (c.alone-in-None.ensures ∙ ap alone c.next_at-came.ensures) ∙ c.in-Some-alone.is) (refl, refl) (refl, refl) in
    let most = t.at_next.new_in in
    omega (arith, most, c.len-news.ensures.classes ys c.requires.walks.stands, c.len-news.type_inv)

pub returns-in-Some : goal.returns-in-Some
returns-in-Some g c =
    let ys = g.S.Shelf.items c.args.input.now in
    told_goes c.args.classes.now ys c.args.d.now.pieces c.args.olds.now c.args.news.now c.args.at c.requires.walks c.in-Some.first _
    (sym (c.alone.ensures ∙ ap alone c.next_at-gone.ensures) ∙ c.in-Some.is) (omega arith, refl) (omega arith, refl)

pub returns-in-Some-alone : goal.returns-in-Some-alone
returns-in-Some-alone g c =
    let ys = g.S.Shelf.items c.args.input.now in
    told_comes c.args.classes.now ys c.args.d.now.pieces c.args.olds.now c.args.news.now c.args.at c.requires.walks c.in-Some-alone.first _
    (sym (c.alone.ensures ∙ ap alone c.next_at-gone.ensures) ∙ c.in-None.is) (sym (c.alone-in-None.ensures ∙ ap alone c.next_at-came.ensures) ∙ c.in-Some-alone.is) (refl, omega arith) (refl, omega arith)
