-- What the touched keys tell is the change of the grouping, and leads from its old groups to its new ones.
use Rattle.std.proofs.Common.{◌≡◌, ◌∙◌, ◌+◌, ◌≤◌, ℕ, List, [], length, map, ap, sym, subst, arith}
use Rattle.std.proofs.lemmas.List.{length-map, map-id}
use Rattle.spec_sorting.specs.Tree.{Tree}
use Rattle.spec_sorting.specs.Piece.{normal}
use Rattle.spec_sorting.specs.Pairs.{pairs}
use Rattle.spec_sorting.specs.Delta.{Delta}
use Rattle.spec_sorting.specs.Leads.{IsDelta, applied}
use Rattle.spec_sorting.specs.Making.{pieces_by}
use Rattle.spec_sorting.proofs.Normal.{normal_is}
use Rattle.spec_sorting.proofs.DeltaLeads.{length_from, length-applied}
use Rattle.spec_sorting.proofs.Made.{pieces_by_leads, pieces_by_normal}
use Rattle.spec_classes.specs.Classes.{classes, class_pairs, keeps_members}
use Rattle.spec_classes.specs.Grouping.{group_of, grouping_view, grouping_follow}
use Rattle.spec_classes.specs.Slots.{slots, told_by}
use Rattle.spec_classes.specs.Told.{group_piece}
use Rattle.spec_classes.specs.declared.Slot.{Slot}
use Rattle.spec_classes.proofs.Grouping.{grouping_told}
use Rattle.gl_kernel.specs.declared.log_step.LogStep.{LogStep}
use Rattle.gl_kernel.specs.Edits.{Makes}
use Rattle.gl_kernel.specs.Fates.{fate, edits_of}
use Rattle.gl_kernel.specs.Plans.{CanTell}
use Rattle.gl_kernel.proofs.Fates.{delta_makes}
use Rattle.gl_classes.specs.Sorting.{order_cmp}
use Rattle.gl_classes.proofs.Sortings.{order_cmp_total}
use Rattle.gl_classes.specs.Kept.{Kept}
use Rattle.gl_classes.specs.InTurn.{AreInTurn}
use Rattle.gl_classes.specs.Stands.{StandsFor}
use Rattle.gl_classes.proofs.TouchedInTurn.{slots_in_turn}
use Rattle.gl_grouping.specs.Following.{groups_of, itself, told_groups, CanFollow}
use Rattle.gl_grouping.proofs.Groups.{few_groups}

module _ (k : Kept) (d : Delta) (xs ys : List Tree) (h : IsDelta d xs ys) where
  abbrev touched : List Slot
  touched = slots (order_cmp k.list.order) xs d

  abbrev followed : Delta
  followed = grouping_follow (order_cmp k.list.order) xs d

  pub told_is : told_groups (groups_of k xs) (groups_of k ys) touched ≡ followed
  told_is =
      let compare = order_cmp k.list.order in
      let olds = groups_of k xs in
      ap (λ n. told_by (group_piece olds (groups_of k ys)) n 0 0 touched) (length-map (classes compare xs) (group_of xs))
      ∙ (ap (λ zs. told_by (group_piece olds (groups_of k zs)) (length (classes compare xs)) 0 0 touched) h.ends ∙ sym (grouping_told compare (order_cmp_total k.list.order) d xs h.starts))

  leads_by : IsDelta followed (groups_of k xs) (groups_of k ys)
  leads_by =
      let compare = order_cmp k.list.order in
      subst (λ zs. IsDelta followed (groups_of k xs) (groups_of k zs)) (sym h.ends)
      (pieces_by_leads (groups_of k xs) (groups_of k (applied d xs)) (class_pairs compare xs (applied d xs) (keeps_members (pairs d))))

  pub told_leads : IsDelta (told_groups (groups_of k xs) (groups_of k ys) touched) (groups_of k xs) (groups_of k ys)
  told_leads = subst (λ ps. IsDelta ps (groups_of k xs) (groups_of k ys)) (sym told_is) leads_by

  -- what was told is the change of the grouping
  pub followed_is : (out : Delta) → out ≡ normal (told_groups (groups_of k xs) (groups_of k ys) touched) → out ≡ followed
  followed_is out told =
      let compare = order_cmp k.list.order in
      told ∙ (ap normal told_is ∙ normal_is followed (pieces_by_normal (groups_of k xs) (groups_of k (applied d xs)) (class_pairs compare xs (applied d xs) (keeps_members (pairs d)))))

  pub can_follow : StandsFor k ys → length xs ≤ 2147483647 → length ys ≤ 2147483647 → CanFollow k (groups_of k xs) ys touched
  can_follow stands few few_too =
      let compare = order_cmp k.list.order in
      let By : ℕ → ℕ → Type 0 = λ m n. AreInTurn m n 0 0 touched in
      let many : length (classes compare (applied d xs)) ≡ length (groups_of k ys) =
      sym (ap (λ zs. length (groups_of k zs)) h.ends ∙ length-map (classes compare (applied d xs)) (group_of (applied d xs))) in
      record {
        stands = stands;
        turn = subst (λ m. By m (length (groups_of k ys))) (sym (length-map (classes compare xs) (group_of xs)))
            (subst (λ n. By (length (classes compare xs)) n) many (slots_in_turn compare xs d));
        leads = told_leads;
        few_olds = omega (arith, few, few_groups k xs);
        few_news = omega (arith, few_too, few_groups k ys);
      }

-- all of it can be told
pub can_tell_all : (k : Kept) (olds ys : List Tree) (ts : List Slot) → CanFollow k olds ys ts → CanTell (told_groups olds (groups_of k ys) ts) []
can_tell_all k olds ys ts can =
    let told = told_groups olds (groups_of k ys) ts in
    record {
      olds = omega (arith, can.few_olds, length_from told olds can.leads.starts);
      news = omega (arith, can.few_news, ap length can.leads.ends, length-applied told olds can.leads.starts);
    }

-- the edits of what is told make the new groups of the old ones
pub edits_make : (k : Kept) (olds ys : List Tree) (ts : List Slot) (log : List (LogStep Tree)) → CanFollow k olds ys ts → log ≡ edits_of 0 (map (fate itself) (told_groups olds (groups_of k ys) ts))
    → Makes log olds (groups_of k ys)
edits_make k olds ys ts log can are =
    let told = told_groups olds (groups_of k ys) ts in
    let all = can_tell_all k olds ys ts can in
    let few = all.olds in
    let few_too = all.news in
    subst (Makes log olds) (map-id (groups_of k ys))
    (delta_makes itself told olds (groups_of k ys) log olds can.leads (omega (arith, few)) (omega (arith, few_too)) (sym (map-id olds)) are)
