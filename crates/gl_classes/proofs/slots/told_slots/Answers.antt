use Rattle.std.proofs.Common.{◌≡◌, ◌∙◌, ◌++◌, List, [], ◌∷◌, refl, ap, sym, arith}
use Rattle.spec_sorting.specs.Leads.{undone}
use Rattle.spec_classes.specs.declared.Slot.{Slot}
use Rattle.gl_arranged.specs.Sorting.{order_cmp}
use Rattle.gl_classes.specs.Sides.{Walks, slots_left}
use Rattle.gl_classes.specs.declared.slots.Cursor.{Cursor}
use Rattle.gl_classes.proofs.WalkSteps.{begin_at, begin_left, end_left}
use Rattle.gl_classes.proofs.slots.told_slots.Goals as goal

none_after : (ts : List Slot) → ts ++ [] ≡ ts
none_after [] = refl
none_after (t ∷ ts) = ap (λ us. t ∷ us) (none_after ts)

pub slots-init : goal.slots-init
slots-init g c =
    let ys = g.S.Shelf.items c.args.input.now in
    let ps = c.args.d.now.pieces in
    let compare = order_cmp c.args.classes.now.list.order in
    let start : Cursor = record { olds = 0; news = 0; gone = 0; came = 0 } in
    let w : Walks c.args.classes.now ys ps c.args.olds.now c.args.news.now start = record {
      leads = c.requires.leads;
      stands = c.requires.stands;
      sides = c.requires.sides;
      stands_at = begin_at compare (undone ps ys) ys c.args.olds.now c.args.news.now;
    } in
    record {
      stands_at = w.stands_at;
      told = ap (λ (ts : List Slot). ts ++ slots_left compare (undone ps ys) ys ps start) c.new-out.ensures.items
          ∙ begin_left c.args.classes.now ys ps c.args.olds.now c.args.news.now start w refl refl;
    }

pub returns : goal.returns
returns g c =
    let ys = g.S.Shelf.items c.args.input.now in
    let ps = c.args.d.now.pieces in
    let compare = order_cmp c.args.classes.now.list.order in
    let w : Walks c.args.classes.now ys ps c.args.olds.now c.args.news.now c.slots.at = record {
      leads = c.requires.leads;
      stands = c.requires.stands;
      sides = c.requires.sides;
      stands_at = c.slots.invariant.stands_at;
    } in
    let past = c.if-at-olds.false in
    let past_too = c.if-at-news.false in
    let none = end_left c.args.classes.now ys ps c.args.olds.now c.args.news.now c.slots.at w (omega (arith, past)) (omega (arith, past_too)) in
    sym (none_after c.slots.out.items) ∙ (ap (λ (ts : List Slot). c.slots.out.items ++ ts) (sym none) ∙ c.slots.invariant.told)
