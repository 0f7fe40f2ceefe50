-- What the touched keys tell is the change of a unique list, and can be told.
use Rattle.std.proofs.Common.{◌≡◌, ◌∙◌, ◌≤◌, ℕ, List, [], length, map, ap, sym, subst, arith}
use Rattle.std.specs.List.{AllByRecursion as Each}
use Rattle.std.specs.Cmp.{IsTotalOrder}
use Rattle.std.proofs.lemmas.List.{length-map}
use Rattle.spec_sorting.specs.Tree.{Tree}
use Rattle.spec_sorting.specs.Piece.{inverted, normal, old_len, new_len}
use Rattle.spec_sorting.specs.Delta.{Delta}
use Rattle.spec_sorting.specs.Pairs.{pairs}
use Rattle.spec_sorting.specs.Leads.{LeadsFrom, LeadsTo, applied, undone}
use Rattle.spec_sorting.specs.Arrangement.{Comparison}
use Rattle.spec_sorting.proofs.DeltaLeads.{length_from, length-applied, leads_back_to}
use Rattle.spec_sorting.proofs.Made.{pieces_by_leads, pieces_by_normal}
use Rattle.spec_sorting.proofs.Normal.{normal_is}
use Rattle.spec_classes.specs.Classes.{first_of, classes, class_pairs, is_plain_pair}
use Rattle.spec_classes.specs.Unique.{shown_member, unique_view, unique_follow}
use Rattle.spec_classes.specs.declared.Slot.{Slot}
use Rattle.spec_classes.specs.Slots.{slots, told_by}
use Rattle.spec_classes.specs.Told.{unique_piece}
use Rattle.spec_classes.proofs.Unique.{unique_told}
use Rattle.gl_kernel.specs.Plans.{CanTell}
use Rattle.gl_classes.specs.InTurn.{AreInTurn}
use Rattle.gl_classes.specs.Kept.{Kept}
use Rattle.gl_classes.specs.Sorting.{order_cmp}
use Rattle.gl_classes.specs.Stands.{StandsFor}
use Rattle.gl_classes.proofs.Sortings.{order_cmp_total}
use Rattle.gl_classes.proofs.TouchedInTurn.{slots_in_turn}
use Rattle.gl_classes.proofs.WalkSteps.{few_classes}
use Rattle.gl_unique.specs.Reading.{CanRead, CanTellAll}
use Rattle.gl_unique.proofs.Readings.{all_read}

-- a list shows no more elements than there are
pub few_shown : (compare : Comparison) → IsTotalOrder compare → (xs : List Tree) → length (unique_view compare xs) ≤ length xs
few_shown compare o xs =
    let few = few_classes compare o xs in
    omega (arith, few, length-map (classes compare xs) (shown_member xs))

module _ (compare : Comparison) (o : IsTotalOrder compare) (d : Delta) (ys : List Tree) (leads : LeadsTo d ys) where
  abbrev xs : List Tree
  xs = undone d ys

  starts : LeadsFrom d xs
  starts = (leads_back_to d ys leads).0

  ends : applied d xs ≡ ys
  ends = (leads_back_to d ys leads).1

  olds_long : length xs ≡ old_len d
  olds_long = length_from d xs starts

  news_long : length ys ≡ new_len d
  news_long = length_from (map inverted d) ys leads

  by_touched : unique_follow compare xs d ≡ told_by (unique_piece xs ys) (length (classes compare xs)) 0 0 (slots compare xs d)
  by_touched =
      unique_told compare o d xs starts
      ∙ ap (λ zs. told_by (unique_piece xs zs) (length (classes compare xs)) 0 0 (slots compare xs d)) ends

  told_is : normal (told_by (unique_piece xs ys) (length (classes compare xs)) 0 0 (slots compare xs d)) ≡ unique_follow compare xs d
  told_is =
      ap normal (sym by_touched)
      ∙ normal_is (unique_follow compare xs d) (pieces_by_normal (unique_view compare xs) (unique_view compare (applied d xs)) (class_pairs compare xs (applied d xs) (λ c e. is_plain_pair (pairs d) (first_of c) (first_of e))))

  can_follow : old_len d ≤ 2147483647 → new_len d ≤ 2147483647 → CanTell (unique_follow compare xs d) []
  can_follow olds_few news_few =
      let is = pieces_by_leads (unique_view compare xs) (unique_view compare (applied d xs)) (class_pairs compare xs (applied d xs) (λ c e. is_plain_pair (pairs d) (first_of c) (first_of e))) in
      let old = length_from (unique_follow compare xs d) (unique_view compare xs) is.starts in
      let new = length-applied (unique_follow compare xs d) (unique_view compare xs) is.starts in
      let few = few_shown compare o xs in
      let few_too = few_shown compare o (applied d xs) in
      record {
        olds = omega (arith, old, few, olds_long, olds_few);
        news = omega (arith, new, ap length is.ends, few_too, ap length ends, news_long, news_few);
      }

  can_tell_all : old_len d ≤ 2147483647 → new_len d ≤ 2147483647 → CanTellAll d ys (length (classes compare xs)) (slots compare xs d)
  can_tell_all olds_few news_few =
      let few = few_classes compare o xs in
      let few_too = few_classes compare o ys in
      record {
        leads = leads;
        news = length (classes compare ys);
        in_turn = subst (λ zs. AreInTurn (length (classes compare xs)) (length (classes compare zs)) 0 0 (slots compare xs d)) ends (slots_in_turn compare xs d);
        few_olds = omega (arith, few, olds_long, olds_few);
        few_news = omega (arith, few_too, news_long, news_few);
        read = subst (λ zs. Each (CanRead d zs) (slots compare xs d)) ends (all_read d xs starts compare o);
        can = subst (λ ps. CanTell ps []) by_touched (can_follow olds_few news_few);
      }

-- the classes stood for the old list: how many these were, and the touched keys, by what contracts see of them
module _ (inside self : Kept) (view_is : inside ≡ self) (d : Delta) (ys : List Tree) (leads : LeadsTo d ys) (stands : StandsFor self (undone d ys))
    (olds : ℕ) (many : (zs : List Tree) → StandsFor inside zs → olds ≡ length (classes (order_cmp inside.list.order) zs))
    (ts : List Slot) (are : ts ≡ slots (order_cmp inside.list.order) (undone d ys) d) where
  abbrev order : Comparison
  order = order_cmp self.list.order

  abbrev total : IsTotalOrder (order_cmp self.list.order)
  total = order_cmp_total self.list.order

  olds_are : olds ≡ length (classes order (undone d ys))
  olds_are =
      many (undone d ys) (subst (λ (k : Kept). StandsFor k (undone d ys)) (sym view_is) stands)
      ∙ ap (λ (k : Kept). length (classes (order_cmp k.list.order) (undone d ys))) view_is

  slots_are : ts ≡ slots order (undone d ys) d
  slots_are = are ∙ ap (λ (k : Kept). slots (order_cmp k.list.order) (undone d ys) d) view_is

  pub can_tell_touched : old_len d ≤ 2147483647 → new_len d ≤ 2147483647 → CanTellAll d ys olds ts
  can_tell_touched olds_few news_few =
      subst (λ n. CanTellAll d ys n ts) (sym olds_are)
      (subst (CanTellAll d ys (length (classes order (undone d ys)))) (sym slots_are) (can_tell_all order total d ys leads olds_few news_few))

  pub told_touched : (out : Delta) → out ≡ normal (told_by (unique_piece (undone d ys) ys) olds 0 0 ts) → out ≡ unique_follow order (undone d ys) d
  told_touched out is =
      is ∙ (ap (λ n. normal (told_by (unique_piece (undone d ys) ys) n 0 0 ts)) olds_are
      ∙ (ap (λ us. normal (told_by (unique_piece (undone d ys) ys) (length (classes order (undone d ys))) 0 0 us)) slots_are ∙ told_is order total d ys leads))
