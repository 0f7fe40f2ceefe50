-- The touched classes of both lists, once they have met.
use Rattle.std.proofs.Common.{◌≡◌, ◌∙◌, ℕ, suc, ◌+◌, ◌<◌, ◌≤◌, ◌&&◌, ◌||◌, Bool, true, false, List, [], ◌∷◌, length, refl, ap, sym, subst, arith, inl, inr}
use Rattle.std.specs.Prelude.{not, Option, Some, None, slice_get}
use Rattle.std.specs.Option.{is_some}
use Rattle.std.specs.List.{list_any, list_all, AllByRecursion as Each}
use Rattle.std.specs.Cmp.{IsTotalOrder, alike_right}
use Rattle.std.proofs.lemmas.Option.{slice_get_within}
use Rattle.spec_sorting.specs.Tree.{Tree}
use Rattle.spec_sorting.specs.Delta.{Delta}
use Rattle.spec_sorting.specs.Pairs.{pairs}
use Rattle.spec_sorting.specs.Sides.{Item, sides, plain, changed, lone}
use Rattle.spec_sorting.specs.Leads.{LeadsFrom, applied}
use Rattle.spec_sorting.specs.Source.{element_at}
use Rattle.spec_sorting.specs.Arrangement.{Comparison, arrangement}
use Rattle.spec_sorting.specs.Moves.{IsRising}
use Rattle.spec_sorting.proofs.Arrangements.{arrangement_is}
use Rattle.spec_sorting.proofs.DeltaLeads.{length_from}
use Rattle.spec_sorting.proofs.Partners.{each_weaker}
use Rattle.spec_sorting.proofs.SortedPositions.{In}
use Rattle.spec_classes.specs.Classes.{Class, first_of, classes, is_kept_old, is_kept_new}
use Rattle.spec_classes.specs.Members.{firsts}
use Rattle.spec_classes.specs.Slots.{read_by, read_after}
use Rattle.spec_classes.specs.declared.First.TheVariants.{Gone}
use Rattle.spec_classes.proofs.Members.{are_classes}
use Rattle.spec_classes.proofs.Keys.{IsWhole, classes_whole, member_is}
use Rattle.gl_arranged.specs.Changes.{AreRanked}
use Rattle.gl_arranged.specs.declared.changed.Ranked.{Ranked}
use Rattle.gl_classes.specs.declared.touched.Touched.{Touched}
use Rattle.gl_classes.specs.Finding.{AreOlds, meets, stays_if, met_olds, met_news}
use Rattle.gl_classes.specs.OldValues.{IsOldValue}
use Rattle.gl_classes.specs.Sides.{IsOld, IsNew, IsPlainNew, AreSides}
use Rattle.gl_classes.specs.Touching.{IsTouched, AreTouched}
use Rattle.gl_classes.proofs.BothSides.{each_at, old_stays, new_stays}
use Rattle.gl_classes.proofs.ChangedPlaces.{StandsThere, ranked_there}
use Rattle.gl_classes.proofs.FoundClasses.{class_list}
use Rattle.gl_classes.proofs.KeptMembers.{keeps_old}
use Rattle.gl_classes.proofs.Meetings.{with_test}
use Rattle.gl_classes.proofs.TouchedClasses.{KeepsBy, IsTouchedClass, touched_class, other_class}
use Rattle.gl_classes.proofs.TouchedLists.{classes_rise}
use Rattle.gl_classes.proofs.Walk.{first_in, keys_rise}

true_false : true ≡ false → ⊥
true_false e = absurd cc

-- the classes are the same ones, whatever stays
pub class_with : (test : Touched → Bool) (ts : List Touched) → class_list (with_test test ts) ≡ class_list ts
class_with test [] = refl
class_with test (t ∷ ts) = ap (λ is. t.class ∷ is) (class_with test ts)

each_made : (P : Touched → Type 0) (test : Touched → Bool) (ts : List Touched) → Each (λ t. P (stays_if t (test t))) ts → Each P (with_test test ts)
each_made P test [] e = tt
each_made P test (t ∷ ts) e = (e.0, each_made P test ts e.1)

not_all : (test : ℕ → Bool) (c : Class) (i : ℕ) → In i c → test i ≡ false → list_all test c ≡ false
not_all test [] i found e = absurd found
not_all test (j ∷ js) i (inl same) e = first (test j) (list_all test js) (ap test (sym same) ∙ e)
  where
    first : (t u : Bool) → t ≡ false → (t && u) ≡ false
    first t u e = rw e refl
not_all test (j ∷ js) i (inr rest) e = second (test j) (list_all test js) (not_all test js i rest e)
  where
    second : (t u : Bool) → u ≡ false → (t && u) ≡ false
    second true u e = e
    second false u e = refl

no_stay : (s u : Bool) → (s || u) ≡ false → s ≡ false
no_stay true u e = absurd cc
no_stay false u e = refl

none_there : (q : Option ℕ) → is_some q ≡ false → q ≡ None
none_there None e = refl
none_there (Some n) e = absurd cc

-- rising numbers below a bound are no more than that
rising_few : (low n : ℕ) (is : List ℕ) → IsRising low is → ((i : ℕ) → In i is → i < n) → low ≤ n → low + length is ≤ n
rising_few low n [] rise below most = omega (arith, most)
rising_few low n (i ∷ is) rise below most =
    let less = below i (inl refl) in
    let more = rising_few (suc i) n is rise.1 (λ j found. below j (inr found)) (omega (arith, less)) in
    omega (arith, more, rise.0)

module _ (compare : Comparison) (o : IsTotalOrder compare) (zs : List Tree) (items : List Item) (long : length items ≡ length zs)
    (ranked : List Ranked) (are : AreRanked (arrangement compare zs) items ranked) (kept : ℕ → Bool) (keeps : KeepsBy kept items) where
  module _ (ts : List Touched) (touched : AreTouched (firsts (classes compare zs)) ranked ts) where
    -- each of them is a class of the list
    pub all_classes : Each (IsTouchedClass zs compare kept) ts
    all_classes =
        each_weaker (IsTouched (firsts (classes compare zs)) ranked) (IsTouchedClass zs compare kept)
        (λ t h. touched_class compare o zs items long ranked are kept keeps t h) ts touched.each

    pub all_others : (r : ℕ) (c : Class) → slice_get (classes compare zs) r ≡ Some c → (In r (class_list ts) → ⊥) → list_all kept c ≡ true
    all_others r c at none = other_class compare o zs items long ranked are kept keeps ts touched r c at none

    pub all_within : Each (λ (t : Touched). t.source < length zs) ts
    all_within =
        each_weaker (IsTouched (firsts (classes compare zs)) ranked) (λ (t : Touched). t.source < length zs)
        (λ t h.
        let there = each_at (StandsThere compare zs items) ranked h.index h.one (ranked_there compare o zs items long ranked are) h.here in
        let less = (arrangement_is compare o zs).within h.one.place h.one.source there.at in
        omega (arith, less, h.source_is)) ts touched.each

    -- there are no more of them than elements
    pub few_touched : length ts ≤ length (classes compare zs)
    few_touched =
        let below : (i : ℕ) → In i (class_list ts) → i < length (classes compare zs) = in_each ts all_classes in
        let few = rising_few 0 (length (classes compare zs)) (class_list ts) touched.rise below (omega arith) in
        omega (arith, few, long_list ts)
      where
        in_each : (us : List Touched) → Each (IsTouchedClass zs compare kept) us → (i : ℕ) → In i (class_list us) → i < length (classes compare zs)
        in_each [] e i found = absurd found
        in_each (u ∷ us) e i (inl same) = let w = slice_get_within (classes compare zs) u.class e.0.class e.0.at in omega (arith, w, same)
        in_each (u ∷ us) e i (inr rest) = in_each us e.1 i rest

        long_list : (us : List Touched) → length (class_list us) ≡ length us
        long_list [] = refl
        long_list (u ∷ us) = ap suc (long_list us)

-- of an element that isn't kept the delta has the old value
gone_by : (d : Delta) (i : ℕ) → is_kept_old (pairs d) i ≡ false → read_after d i ≡ Gone i
gone_by d i e = by (slice_get (sides d).old i) refl
  where
    by : (q : Option Item) → slice_get (sides d).old i ≡ q → read_after d i ≡ Gone i
    by None at = ap (read_by i) at
    by (Some (plain j)) at = absurd (true_false (sym ((keeps_old d).plain_kept i j at) ∙ e))
    by (Some (changed j v)) at = ap (read_by i) at
    by (Some (lone v)) at = ap (read_by i) at

module _ (compare : Comparison) (o : IsTotalOrder compare) (d : Delta) (xs : List Tree) (leads : LeadsFrom d xs)
    (olds news : List Touched)
    (olds_are : Each (IsTouchedClass xs compare (is_kept_old (pairs d))) olds)
    (news_are : Each (IsTouchedClass (applied d xs) compare (is_kept_new (pairs d))) news)
    (other_olds : (r : ℕ) (c : Class) → slice_get (classes compare xs) r ≡ Some c → (In r (class_list olds) → ⊥) → list_all (is_kept_old (pairs d)) c ≡ true)
    (other_news : (s : ℕ) (e : Class) → slice_get (classes compare (applied d xs)) s ≡ Some e → (In s (class_list news) → ⊥) → list_all (is_kept_new (pairs d)) e ≡ true) where
  abbrev ys : List Tree
  ys = applied d xs

  abbrev old_test : Touched → Bool
  old_test t = list_any (λ u. not u.stays && meets compare xs ys t u) news

  abbrev new_test : Touched → Bool
  new_test u = list_any (λ t. meets compare xs ys t u) olds

  old_is : (t : Touched) → IsTouchedClass xs compare (is_kept_old (pairs d)) t → IsOld compare xs ys d (stays_if t (old_test t))
  old_is t h = record {
    class = h.class;
    at = h.at;
    stays_is = old_stays compare o d xs leads news news_are other_news t h;
    changed = not_all (is_kept_old (pairs d)) h.class t.source h.member h.changed;
    first_changed = λ e. ap (read_after d) (h.first_changed e) ∙ gone_by d t.source h.changed;
    first_kept = h.first_kept;
    lone = λ e. by t.first refl (none_there t.plain (sym h.stays_is ∙ no_stay t.stays (old_test t) e));
  }
    where
      whole : IsWhole compare o xs h.class
      whole = each_at (IsWhole compare o xs) (classes compare xs) t.class h.class (classes_whole compare o xs) h.at

      by : (b : Bool) → t.first ≡ b → t.plain ≡ None → t.first ≡ true
      by true is none = is
      by false is none =
          absurd (true_false (sym (h.first_kept is) ∙ h.none_kept none (first_of h.class) (first_in h.class whole.class.first whole.class.others whole.class.are)))

  new_is : (u : Touched) → IsTouchedClass ys compare (is_kept_new (pairs d)) u → IsNew compare xs ys d (stays_if u (new_test u))
  new_is u h = record {
    class = h.class;
    at = h.at;
    stays_is = new_stays compare o d xs leads olds olds_are other_olds u h;
    changed = not_all (is_kept_new (pairs d)) h.class u.source h.member h.changed;
    lone = λ e. by u.first refl (none_there u.plain (sym h.stays_is ∙ no_stay u.stays (new_test u) e));
    plain_is = plain_by u.plain refl;
  }
    where
      whole : IsWhole compare o ys h.class
      whole = each_at (IsWhole compare o ys) (classes compare ys) u.class h.class (classes_whole compare o ys) h.at

      by : (b : Bool) → u.first ≡ b → u.plain ≡ None → u.source ≡ first_of h.class
      by true is none = sym (h.first_changed is)
      by false is none =
          absurd (true_false (sym (h.first_kept is) ∙ h.none_kept none (first_of h.class) (first_in h.class whole.class.first whole.class.others whole.class.are)))

      plain_by : (q : Option ℕ) → u.plain ≡ q → IsPlainNew compare ys d h.class u.plain
      plain_by None e = subst (IsPlainNew compare ys d h.class) (sym e) (h.none_kept e)
      plain_by (Some q) e = subst (IsPlainNew compare ys d h.class) (sym e) (h.some_kept q e)

  pub sides_are : IsRising 0 (class_list olds) → IsRising 0 (class_list news) → AreSides compare xs ys d (met_olds compare xs ys olds news) (met_news compare xs ys olds news)
  sides_are olds_rise news_rise = record {
    olds_rise = subst (IsRising 0) (sym (class_with old_test olds)) olds_rise;
    news_rise = subst (IsRising 0) (sym (class_with new_test news)) news_rise;
    olds_are = each_made (IsOld compare xs ys d) old_test olds
        (each_weaker (IsTouchedClass xs compare (is_kept_old (pairs d))) (λ t. IsOld compare xs ys d (stays_if t (old_test t))) old_is olds olds_are);
    news_are = each_made (IsNew compare xs ys d) new_test news
        (each_weaker (IsTouchedClass ys compare (is_kept_new (pairs d))) (λ u. IsNew compare xs ys d (stays_if u (new_test u))) new_is news news_are);
    other_olds = λ r c at none. other_olds r c at (λ found. none (subst (In r) (sym (class_with old_test olds)) found));
    other_news = λ s e at none. other_news s e at (λ found. none (subst (In s) (sym (class_with new_test news)) found));
  }

-- they are searched by their keys
pub olds_searched : (compare : Comparison) → IsTotalOrder compare → (d : Delta) (xs : List Tree) → LeadsFrom d xs → (olds : List Touched)
    → Each (IsTouchedClass xs compare (is_kept_old (pairs d))) olds × Each (λ (t : Touched). t.source < length xs) olds → IsRising 0 (class_list olds) → AreOlds compare xs d olds
olds_searched compare o d xs leads olds are rise = record {
  values = values olds are.0 are.1;
  rise = λ p q t u less at_p at_q.
      let h = each_at (IsTouchedClass xs compare (is_kept_old (pairs d))) olds p t are.0 at_p in
      let g = each_at (IsTouchedClass xs compare (is_kept_old (pairs d))) olds q u are.0 at_q in
      let w = each_at (IsWhole compare o xs) (classes compare xs) t.class h.class (classes_whole compare o xs) h.at in
      let v = each_at (IsWhole compare o xs) (classes compare xs) u.class g.class (classes_whole compare o xs) g.at in
      let up = classes_rise 0 olds p q t u rise less at_p at_q in
      let lower = keys_rise compare xs (classes compare xs) t.class u.class h.class g.class (are_classes compare o xs).rise up h.at g.at in
      let one = (member_is compare o xs h.class w.class t.source h.member).tied in
      let other = (member_is compare o xs g.class v.class u.source g.member).tied in
      sym (o.congr (element_at xs (first_of h.class)) (element_at xs t.source) (element_at xs u.source) one)
      ∙ (sym (alike_right o (element_at xs (first_of g.class)) (element_at xs u.source) (element_at xs (first_of h.class)) other) ∙ lower);
}
  where
    values : (ts : List Touched) → Each (IsTouchedClass xs compare (is_kept_old (pairs d))) ts → Each (λ (t : Touched). t.source < length xs) ts → Each (λ (t : Touched). IsOldValue d t.source) ts
    values [] e w = tt
    values (t ∷ ts) e w = (
      record {
        within = let less = w.0 in omega (arith, less, length_from d xs leads);
        changed = λ j at. true_false (sym ((keeps_old d).plain_kept t.source j at) ∙ e.0.changed);
      },
      values ts e.1 w.1,
    )

-- the same, where the list after the change is known
module _ (compare : Comparison) (o : IsTotalOrder compare) (d : Delta) (xs : List Tree) (leads : LeadsFrom d xs) (olds news : List Touched) where
  -- the touched classes of a list after the change
  pub record AreBoth (ys : List Tree) : Type 0 where
    pub olds_are : Each (IsTouchedClass xs compare (is_kept_old (pairs d))) olds
    pub news_are : Each (IsTouchedClass ys compare (is_kept_new (pairs d))) news
    pub other_olds : (r : ℕ) (c : Class) → slice_get (classes compare xs) r ≡ Some c → (In r (class_list olds) → ⊥) → list_all (is_kept_old (pairs d)) c ≡ true
    pub other_news : (s : ℕ) (e : Class) → slice_get (classes compare ys) s ≡ Some e → (In s (class_list news) → ⊥) → list_all (is_kept_new (pairs d)) e ≡ true
    pub olds_rise : IsRising 0 (class_list olds)
    pub news_rise : IsRising 0 (class_list news)

  pub sides_made : (ys : List Tree) → applied d xs ≡ ys → AreBoth ys → AreSides compare xs ys d (met_olds compare xs ys olds news) (met_news compare xs ys olds news)
  sides_made ys ends both =
      let P : List Tree → Type 0 = λ zs. AreBoth zs → AreSides compare xs zs d (met_olds compare xs zs olds news) (met_news compare xs zs olds news) in
      subst P ends (λ b. sides_are compare o d xs leads olds news b.olds_are b.news_are b.other_olds b.other_news b.olds_rise b.news_rise) both
