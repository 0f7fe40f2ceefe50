use Rattle.std.proofs.Common.{◌≡◌, ◌∙◌, ◌≤◌, List, length, map, ap, sym, subst, arith}
use Rattle.spec_sorting.specs.Piece.{inverted, normal}
use Rattle.spec_sorting.specs.Leads.{applied}
use Rattle.spec_sorting.proofs.DeltaLeads.{delta_to, length_from, length-applied}
use Rattle.spec_classes.specs.Grouping.{grouping_view, grouping_follow}
use Rattle.spec_classes.specs.Slots.{slots}
use Rattle.spec_classes.specs.declared.Slot.{Slot}
use Rattle.gl_classes.specs.Sorting.{Key, order_cmp}
use Rattle.gl_grouping.specs.Kept.{Kept}
use Rattle.gl_grouping.specs.Following.{groups_of, told_groups, CanFollow}
use Rattle.gl_grouping.proofs.Laws.{can_follow, followed_is}
use Rattle.gl_grouping.proofs.grouping.Grouping.advance.Goals as goal

pub regroup-requires : goal.regroup-requires
regroup-requires g c =
    let d = c.args.d.now.pieces in
    let ys = g.S.Shelf.items c.args.input.now in
    let xs = applied (map inverted d) ys in
    let delta = delta_to d ys c.requires.leads in
    let k = c.advance.new.self in
    let order = c.in_ok-slots.ensures.order ∙ ap (λ (a : Kept). a.classes.list.order) c.self.view_is in
    let groups : c.self.inside.groups.values ≡ groups_of k xs =
    ap (λ (a : Kept). a.groups.values) c.self.view_is ∙ (c.requires.stands.groups ∙ ap (λ (o : List Key). grouping_view (order_cmp o) xs) (sym order)) in
    let touched : c.as_slice.result.now ≡ slots (order_cmp k.list.order) xs d =
    c.as_slice.ensures.value ∙ (c.in_ok-slots.ensures.slots ∙ ap (λ (o : List Key). slots (order_cmp o) xs d) (sym c.in_ok-slots.ensures.order)) in
    let few : length xs ≤ 2147483647 = omega (arith, length_from d xs delta.starts, c.old_len-olds.ensures.value, c.old_len-olds.ensures.few) in
    let few_too : length ys ≤ 2147483647 = omega (arith, ap length delta.ends, length-applied d xs delta.starts, c.new_len-news.ensures.value, c.new_len-news.ensures.few) in
    subst (λ vs. CanFollow k vs ys c.as_slice.result.now) (sym groups)
    (subst (CanFollow k (groups_of k xs) ys) (sym touched) (can_follow k d xs ys delta c.in_ok-slots.ensures.stands few few_too))

pub returns-in-Ok-clause-pieces : goal.returns-in-Ok-clause-pieces
returns-in-Ok-clause-pieces g c =
    let d = c.args.d.now.pieces in
    let ys = g.S.Shelf.items c.args.input.now in
    let xs = applied (map inverted d) ys in
    let delta = delta_to d ys c.requires.leads in
    let k = c.advance.new.self in
    let order = c.in_ok-slots.ensures.order ∙ ap (λ (a : Kept). a.classes.list.order) c.self.view_is in
    let groups : c.self.inside.groups.values ≡ groups_of k xs =
    ap (λ (a : Kept). a.groups.values) c.self.view_is ∙ (c.requires.stands.groups ∙ ap (λ (o : List Key). grouping_view (order_cmp o) xs) (sym order)) in
    let touched : c.as_slice.result.now ≡ slots (order_cmp k.list.order) xs d =
    c.as_slice.ensures.value ∙ (c.in_ok-slots.ensures.slots ∙ ap (λ (o : List Key). slots (order_cmp o) xs d) (sym c.in_ok-slots.ensures.order)) in
    let told = c.in-Ok.ensures.told
    ∙ (ap (λ vs. normal (told_groups vs (groups_of k ys) c.as_slice.result.now)) groups ∙ ap (λ (ts : List Slot). normal (told_groups (groups_of k xs) (groups_of k ys) ts)) touched) in
    followed_is k d xs ys delta c.in-Ok.out.pieces told ∙ ap (λ (o : List Key). grouping_follow (order_cmp o) xs d) order
