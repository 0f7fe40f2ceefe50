use Rattle.std.proofs.Common.{◌≡◌, ◌∙◌, ◌+◌, ap, sym, arith}
use Rattle.std.specs.Prelude.{Some, None, option_map}
use Rattle.std.proofs.lemmas.Option.{slice_get_within}
use Rattle.spec_sorting.specs.Leads.{undone}
use Rattle.spec_classes.specs.Classes.{first_of, classes}
use Rattle.gl_arranged.specs.Sorting.{order_cmp}
use Rattle.gl_classes.specs.declared.slots.Cursor.{Cursor}
use Rattle.gl_classes.proofs.WalkSteps.{meeting, plain_there, told_met, few_old}
use Rattle.gl_classes.proofs.slots.met_slot.Goals as goal

pub unreachable-requires : goal.unreachable-requires
unreachable-requires g c =
    let ys = g.S.Shelf.items c.args.input.now in
    let m = meeting c.args.classes.now ys c.args.d.now.pieces c.args.olds.now c.args.news.now c.args.at c.requires.walks c.args.gone c.args.came c.requires.met in
    let e : None ≡ Some (first_of m.new) = sym c.in-None.is ∙ (c.find_first.ensures ys c.requires.walks.stands ∙ ap (option_map first_of) m.new_at) in
    absurd cc

pub old_first-requires : goal.old_first-requires
old_first-requires g c =
    let ys = g.S.Shelf.items c.args.input.now in
    plain_there c.args.classes.now ys c.args.d.now.pieces c.args.olds.now c.args.news.now c.args.at c.requires.walks c.args.gone c.args.came c.requires.met

pub overflow_add-next : goal.overflow_add-next
overflow_add-next g c =
    let ys = g.S.Shelf.items c.args.input.now in
    let a : Cursor = c.args.at in
    let m = meeting c.args.classes.now ys c.args.d.now.pieces c.args.olds.now c.args.news.now a c.requires.walks c.args.gone c.args.came c.requires.met in
    let within = slice_get_within (classes (order_cmp c.args.classes.now.list.order) (undone c.args.d.now.pieces ys)) a.olds m.old m.old_at in
    let few = few_old c.args.classes.now ys c.args.d.now.pieces c.args.olds.now c.args.news.now a c.requires.walks in
    omega (arith, within, few, c.old_len-olds.ensures.value, c.old_len-olds.ensures.few)

pub overflow_add-next-2 : goal.overflow_add-next-2
overflow_add-next-2 g c =
    let ys = g.S.Shelf.items c.args.input.now in
    let a : Cursor = c.args.at in
    let m = meeting c.args.classes.now ys c.args.d.now.pieces c.args.olds.now c.args.news.now a c.requires.walks c.args.gone c.args.came c.requires.met in
    let within = slice_get_within (classes (order_cmp c.args.classes.now.list.order) ys) a.news m.new m.new_at in
    omega (arith, within, c.len-news.ensures.classes ys c.requires.walks.stands, c.len-news.type_inv)

pub returns : goal.returns
returns g c =
    let ys = g.S.Shelf.items c.args.input.now in
    let a : Cursor = c.args.at in
    told_met c.args.classes.now ys c.args.d.now.pieces c.args.olds.now c.args.news.now a c.requires.walks c.args.gone c.args.came c.requires.met
    c.in-Some.first c.old_first.result _ (sym c.in-Some.is ∙ c.find_first.ensures ys c.requires.walks.stands) c.old_first.ensures (omega arith, omega arith)
    (ap (λ n. a.gone + n) c.how_many.ensures, ap (λ n. a.came + n) c.how_many-2.ensures)
