use Rattle.std.proofs.Common.{◌≡◌, ◌∙◌, ◌+◌, ◌^◌, ◌<◌, ◌++◌, suc, [], ◌∷◌, Some, None, false, length, map, take, drop, refl, sym, ap, subst, arith}
use Rattle.std.specs.Prelude.{slice_set}
use Rattle.std.specs.List.{list_any, slice_get, slice_index_or}
use Rattle.std.proofs.lemmas.List.{length-map}
use Rattle.std.proofs.lemmas.Option.{slice_get-get_or}
use Rattle.spec_sorting.specs.Leads.{undone}
use Rattle.gl_arranged.specs.Sorting.{order_cmp}
use Rattle.gl_classes.specs.declared.touched.Touched.{Touched}
use Rattle.gl_classes.specs.Finding.{AreOlds, meets, stays_if, met_one, met_new, met_olds}
use Rattle.gl_classes.proofs.Meetings.{all_still, olds_with, olds_more, new_more, take_more, set_next, get_next, read_touched, counted_more, no_steps}
use Rattle.gl_classes.proofs.meeting.meet.Goals as goal

pub loop-index-init : goal.loop-index-init
loop-index-init g c = record {
  olds = sym (all_still c.args.olds.now);
  news = refl;
  counted = λ digits few. no_steps c.args.steps.now digits;
}

pub meet_one-requires-clause-olds : goal.meet_one-requires-clause-olds
meet_one-requires-clause-olds g c =
    let ys = g.S.Shelf.items c.args.input.now in
    let xs = undone c.args.d.now.pieces ys in
    let compare = order_cmp c.args.order.now in
    subst (AreOlds compare xs c.args.d.now.pieces) (sym c.loop-index.invariant.olds)
    (olds_with compare xs c.args.d.now.pieces _ c.args.olds.now c.requires.olds)

pub loop-index-preserved : goal.loop-index-preserved
loop-index-preserved g c =
    let ys = g.S.Shelf.items c.args.input.now in
    let xs = undone c.args.d.now.pieces ys in
    let compare = order_cmp c.args.order.now in
    let i = c.loop-index.invariant in
    let k = c.loop-index.index in
    let olds = c.args.olds.now in
    let news = c.args.news.now in
    let d : Touched = record { class = 0; source = 0; first = false; plain = None; stays = false } in
    let u : Touched = slice_index_or news k d in
    let f : Touched → Touched = λ v. stays_if v (list_any (λ t. meets compare xs ys t v) olds) in
    let at : slice_get news k ≡ Some u = slice_get-get_or news k d c.loop-index-test.true in
    let here : slice_get c.loop-index.news k ≡ Some u = ap (λ ts. slice_get ts k) i.news ∙ get_next f news k u at in
    let one : slice_index_or c.loop-index.news k d ≡ u = read_touched c.loop-index.news k u d here in
    let next : k + 1 ≡ suc k = omega arith in
    let taken : take (k + 1) news ≡ take k news ++ u ∷ [] = ap (λ n. take n news) next ∙ take_more news k u at in
    record {
      olds = c.meet_one.ensures.olds
          ∙ (ap (λ ts. met_one compare xs ys ts (slice_index_or c.loop-index.news k d)) i.olds
          ∙ (ap (met_one compare xs ys (met_olds compare xs ys olds (take k news))) one
          ∙ (olds_more compare xs ys olds (take k news) u ∙ ap (met_olds compare xs ys olds) (sym taken))));
      news = ap (slice_set c.loop-index.news k) (c.meet_one.ensures.new
          ∙ (ap (λ ts. met_new compare xs ys ts (slice_index_or c.loop-index.news k d)) i.olds
          ∙ (ap (met_new compare xs ys (met_olds compare xs ys olds (take k news))) one ∙ new_more compare xs ys olds (take k news) u)))
          ∙ (ap (λ ts. slice_set ts k (f u)) i.news
          ∙ (set_next f news k u at ∙ sym (ap (λ n. map f (take n news) ++ drop n news) next)));
      counted = λ digits few.
          counted_more c.args.steps.now c.loop-index.steps c.meet_one.new.steps k digits (i.counted digits few)
          (c.meet_one.ensures.counted digits (subst (λ n. n < 2 ^ digits) (sym (ap length i.olds ∙ length-map olds _)) few));
    }
