-- What telling the touched keys needs, from the changed elements.
use Rattle.std.proofs.Common.{◌≡◌, ◌∙◌, ◌≤◌, List, length, map, sym, subst, arith}
use Rattle.std.specs.Cmp.{IsTotalOrder}
use Rattle.std.proofs.lemmas.List.{length-map}
use Rattle.std.proofs.lemmas.List.Sorted.{length_permutation}
use Rattle.spec_sorting.specs.Tree.{Tree}
use Rattle.spec_sorting.specs.Delta.{Delta}
use Rattle.spec_sorting.specs.Piece.{inverted, old_len}
use Rattle.spec_sorting.specs.Pairs.{pairs}
use Rattle.spec_sorting.specs.Sides.{sides}
use Rattle.spec_sorting.specs.Leads.{LeadsTo, LeadsFrom, undone}
use Rattle.spec_sorting.specs.Arrangement.{Comparison, arrangement}
use Rattle.spec_sorting.proofs.Composition.{length-olds}
use Rattle.spec_sorting.proofs.DeltaLeads.{leads_back_to, length_from}
use Rattle.spec_classes.specs.Classes.{classes, is_kept_old, is_kept_new}
use Rattle.spec_classes.specs.Members.{firsts}
use Rattle.spec_classes.proofs.Members.{are_classes}
use Rattle.gl_arranged.specs.Sorting.{order_cmp}
use Rattle.gl_arranged.specs.Changes.{AreRanked, changed_of, rank_of, fresh_len}
use Rattle.gl_arranged.specs.declared.changed.Ranked.{Ranked}
use Rattle.gl_arranged.proofs.Lists.{fresh_changed}
use Rattle.gl_arranged.proofs.Sortings.{order_cmp_total}
use Rattle.gl_classes.specs.declared.touched.Touched.{Touched}
use Rattle.gl_classes.specs.Finding.{AreOlds, AreNews, met_olds, met_news}
use Rattle.gl_classes.specs.Unmet.{AreTouchedOld}
use Rattle.gl_classes.specs.Kept.{Kept}
use Rattle.gl_classes.specs.Sides.{AreSides}
use Rattle.gl_classes.specs.Stands.{StandsFor}
use Rattle.gl_classes.specs.Touching.{AreChangedIn, AreTouched}
use Rattle.gl_classes.proofs.ChangedIn.{changed_in}
use Rattle.gl_classes.proofs.KeptMembers.{keeps_old, keeps_new}
use Rattle.gl_classes.proofs.Standing.{shown_is}
use Rattle.gl_classes.proofs.SidesMade.{all_classes, all_others, all_within, few_touched, olds_searched, sides_made}
use Rattle.gl_classes.proofs.WalkSteps.{few_classes}

module _ (k : Kept) (ys : List Tree) (d : Delta) (leads_to : LeadsTo d ys) (olds : List Touched) (t : AreTouchedOld (order_cmp k.list.order) (undone d ys) d olds) where
  abbrev compare : Comparison
  compare = order_cmp k.list.order

  o : IsTotalOrder compare
  o = order_cmp_total k.list.order

  abbrev xs : List Tree
  xs = undone d ys

  leads : LeadsFrom d xs
  leads = (leads_back_to d ys leads_to).0

  old_long : length (sides d).old ≡ length xs
  old_long = length-olds d 0 ∙ sym (length_from d xs leads)

  new_long : length (sides d).new ≡ length ys
  new_long = length-olds (map inverted d) 0 ∙ sym (length_from (map inverted d) ys leads_to)

  touched_old : AreTouched (firsts (classes compare xs)) t.gone olds
  touched_old = subst (λ bs. AreTouched bs t.gone olds) (are_classes compare o xs).marks t.touched

  pub olds_found : AreOlds compare xs d olds
  olds_found =
      olds_searched compare o d xs leads olds (
        all_classes compare o xs (sides d).old old_long t.gone t.gone_are (is_kept_old (pairs d)) (keeps_old d) olds touched_old,
        all_within compare o xs (sides d).old old_long t.gone t.gone_are (is_kept_old (pairs d)) (keeps_old d) olds touched_old,
      ) touched_old.rise

  pub few_olds : length olds ≤ old_len d
  few_olds =
      let few = few_touched compare o xs (sides d).old old_long t.gone t.gone_are (is_kept_old (pairs d)) (keeps_old d) olds touched_old in
      let most = few_classes compare o xs in
      omega (arith, few, most, length_from d xs leads)

  module _ (stands : StandsFor k ys) (came : List Ranked) (came_are : AreRanked k.list.tree.places (sides d).new came) where
    came_ranked : AreRanked (arrangement compare ys) (sides d).new came
    came_ranked = subst (λ is. AreRanked is (sides d).new came) stands.list.places came_are

    pub came_changed : length ys ≤ 2147483647 → AreChangedIn k.firsts.shown came
    came_changed few = subst (λ bs. AreChangedIn bs came) (sym (shown_is k ys stands)) (changed_in compare o ys (sides d).new new_long came came_ranked few)

    module _ (news : List Touched) (touched : AreTouched k.firsts.shown came news) where
      touched_new : AreTouched (firsts (classes compare ys)) came news
      touched_new = subst (λ bs. AreTouched bs came news) (shown_is k ys stands) touched

      pub news_found : AreNews ys news
      news_found = all_within compare o ys (sides d).new new_long came came_ranked (is_kept_new (pairs d)) (keeps_new d) news touched_new

      pub few_news : length news ≤ fresh_len d
      few_news =
          omega (arith, touched.few, length_permutation _ came came_are.are, length-map (changed_of 0 (sides d).new) (rank_of k.list.tree.places), fresh_changed d 0 0)

      pub sides_told : AreSides compare xs ys d (met_olds compare xs ys olds news) (met_news compare xs ys olds news)
      sides_told =
          sides_made compare o d xs leads olds news ys (leads_back_to d ys leads_to).1 (record {
            olds_are = all_classes compare o xs (sides d).old old_long t.gone t.gone_are (is_kept_old (pairs d)) (keeps_old d) olds touched_old;
            news_are = all_classes compare o ys (sides d).new new_long came came_ranked (is_kept_new (pairs d)) (keeps_new d) news touched_new;
            other_olds = all_others compare o xs (sides d).old old_long t.gone t.gone_are (is_kept_old (pairs d)) (keeps_old d) olds touched_old;
            other_news = all_others compare o ys (sides d).new new_long came came_ranked (is_kept_new (pairs d)) (keeps_new d) news touched_new;
            olds_rise = touched_old.rise;
            news_rise = touched_new.rise;
          })
