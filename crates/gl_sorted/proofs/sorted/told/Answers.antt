use Rattle.std.proofs.Common.{◌≡◌, ◌∙◌, List, ℕ, length, ap, sym, subst, arith}
use Rattle.spec_sorting.specs.Piece.{normal}
use Rattle.spec_sorting.specs.Sides.{sides}
use Rattle.spec_sorting.specs.Leads.{undone}
use Rattle.spec_sorting.proofs.DeltaLeads.{delta_to}
use Rattle.gl_arranged.specs.Sorting.{order_cmp}
use Rattle.gl_arranged.proofs.Sortings.{order_cmp_total}
use Rattle.spec_sorting.specs.Arrangement.{arrangement}
use Rattle.gl_order.proofs.Edits.{length-ordered}
use Rattle.gl_arranged.specs.declared.changed.Ranked.{Ranked}
use Rattle.gl_arranged.specs.Changes.{AreRanked}
use Rattle.gl_sorted.specs.Leaves.{settled, AreFound}
use Rattle.gl_sorted.specs.Merging.{CanMerge, merged_from}
use Rattle.gl_sorted.proofs.Laws.{AreChangesOf, are_found, can_merge, merged_is}
use Rattle.gl_sorted.proofs.sorted.told.Goals as goal

pub settle-requires : goal.settle-requires
settle-requires g c =
    let compare = order_cmp c.args.list.now.order in
    let o = order_cmp_total c.args.list.now.order in
    let ys = g.S.Shelf.items c.args.input.now in
    let d = c.args.d.now.pieces in
    let xs = undone d ys in
    let are : AreChangesOf compare xs ys d c.args.gone.items c.args.came.items = record {
      delta = delta_to d ys c.requires.leads;
      gone_ranked = c.requires.gone;
      came_ranked = subst (λ is. AreRanked is (sides d).new c.args.came.items) c.requires.stands.places c.requires.came;
      olds_few = omega (arith, c.old_len-olds.ensures.value, c.old_len-olds.ensures.few);
      news_few = omega (arith, c.new_len-news.ensures.value, c.new_len-news.ensures.few);
    } in
    subst (λ gs. AreFound c.args.list.now.tree.places gs c.as_slice-2.result.now) (sym c.as_slice.ensures.value)
    (subst (AreFound c.args.list.now.tree.places c.args.gone.items) (sym c.as_slice-2.ensures.value)
    (subst (λ is. AreFound is c.args.gone.items c.args.came.items) (sym c.requires.stands.places) (are_found compare o xs ys d c.args.gone.items c.args.came.items are)))

settled_same : (is js : List ℕ) (m n : ℕ) (gs hs cs es : List Ranked) → is ≡ js → m ≡ n → gs ≡ hs → cs ≡ es → settled is m gs cs ≡ settled js n hs es
settled_same is js m n gs hs cs es e f h k = ap (λ us. settled us m gs cs) e ∙ (ap (λ a. settled js a gs cs) f ∙ (ap (λ us. settled js n us cs) h ∙ ap (settled js n hs) k))

pub merged-requires : goal.merged-requires
merged-requires g c =
    let compare = order_cmp c.args.list.now.order in
    let o = order_cmp_total c.args.list.now.order in
    let ys = g.S.Shelf.items c.args.input.now in
    let d = c.args.d.now.pieces in
    let xs = undone d ys in
    let are : AreChangesOf compare xs ys d c.args.gone.items c.args.came.items = record {
      delta = delta_to d ys c.requires.leads;
      gone_ranked = c.requires.gone;
      came_ranked = subst (λ is. AreRanked is (sides d).new c.args.came.items) c.requires.stands.places c.requires.came;
      olds_few = omega (arith, c.old_len-olds.ensures.value, c.old_len-olds.ensures.few);
      news_few = omega (arith, c.new_len-news.ensures.value, c.new_len-news.ensures.few);
    } in
    let long = length-ordered compare ys c.args.list.now.tree o c.requires.stands in
    let leaving : c.as_slice-3.result.now ≡ settled (arrangement compare ys) (length ys) c.args.gone.items c.args.came.items =
    c.as_slice-3.ensures.value ∙ (c.in_ok-leaving.ensures ∙ settled_same _ _ _ _ _ _ _ _ c.requires.stands.places long c.as_slice.ensures.value c.as_slice-2.ensures.value) in
    subst (λ ls. CanMerge d xs ys ls c.as_slice-4.result.now) (sym leaving)
    (subst (CanMerge d xs ys (settled (arrangement compare ys) (length ys) c.args.gone.items c.args.came.items)) (sym c.as_slice-4.ensures.value) (can_merge compare o xs ys d c.args.gone.items c.args.came.items are))

pub returns : goal.returns
returns g c =
    let compare = order_cmp c.args.list.now.order in
    let o = order_cmp_total c.args.list.now.order in
    let ys = g.S.Shelf.items c.args.input.now in
    let d = c.args.d.now.pieces in
    let xs = undone d ys in
    let are : AreChangesOf compare xs ys d c.args.gone.items c.args.came.items = record {
      delta = delta_to d ys c.requires.leads;
      gone_ranked = c.requires.gone;
      came_ranked = subst (λ is. AreRanked is (sides d).new c.args.came.items) c.requires.stands.places c.requires.came;
      olds_few = omega (arith, c.old_len-olds.ensures.value, c.old_len-olds.ensures.few);
      news_few = omega (arith, c.new_len-news.ensures.value, c.new_len-news.ensures.few);
    } in
    let long = length-ordered compare ys c.args.list.now.tree o c.requires.stands in
    let leaving : c.as_slice-3.result.now ≡ settled (arrangement compare ys) (length ys) c.args.gone.items c.args.came.items =
    c.as_slice-3.ensures.value ∙ (c.in_ok-leaving.ensures ∙ settled_same _ _ _ _ _ _ _ _ c.requires.stands.places long c.as_slice.ensures.value c.as_slice-2.ensures.value) in
    c.in_ok-out.ensures ∙ (ap (λ ls. normal (merged_from xs ys ls 0 ls 0 c.as_slice-4.result.now)) leaving
    ∙ (ap (λ rs. normal (merged_from xs ys (settled (arrangement compare ys) (length ys) c.args.gone.items c.args.came.items) 0 (settled (arrangement compare ys) (length ys) c.args.gone.items c.args.came.items) 0 rs)) c.as_slice-4.ensures.value
    ∙ merged_is compare o xs ys d c.args.gone.items c.args.came.items are))
