-- A class with a member that is kept has one of its key in the other list. One without meets only one without.
use Rattle.std.proofs.Common.{◌≡◌, ◌∙◌, ℕ, zero, suc, ◌||◌, Bool, true, false, List, [], ◌∷◌, refl, ap, sym, arith}
use Rattle.std.specs.Prelude.{Some, slice_get}
use Rattle.std.specs.List.{list_any}
use Rattle.std.specs.Cmp.{IsTotalOrder, tied_back}
use Rattle.std.specs.declared.cmp.Ordering.TheVariants.{Equal}
use Rattle.spec_value.specs.Tree.{Tree}
use Rattle.spec_lists.specs.Pairs.{pairs}
use Rattle.spec_lists.specs.Delta.{Delta}
use Rattle.spec_lists.specs.Leads.{LeadsFrom, applied}
use Rattle.spec_lists.proofs.DeltaLeads.{length-applied, length_from}
use Rattle.spec_views.specs.Source.{element_at}
use Rattle.spec_views.specs.Arrangement.{Comparison}
use Rattle.spec_views.specs.Classes.{Class, first_of, classes, is_kept_old, is_kept_new}
use Rattle.spec_views.proofs.SortedPositions.{In}
use Rattle.spec_classes.specs.Meetings.{of_key}
use Rattle.spec_classes.proofs.Members.{are_classes}
use Rattle.spec_classes.proofs.Keys.{key_tied, tied_is_key, IsWhole, member_is, all_joined, find_class}
use Rattle.spec_classes.proofs.PlainPairs.{partner_of_old, partner_of_new, plain_one, kept_by_old, kept_by_new}

-- a test that holds of an item of a list
pub any_here : {X : Type 0} (test : X → Bool) (xs : List X) (k : ℕ) (x : X) → slice_get xs k ≡ Some x → test x ≡ true → list_any test xs ≡ true
any_here test [] k x at h = absurd cc
any_here test (y ∷ ys) zero x at h = let same : y ≡ x = cc in first (test y) (list_any test ys) (ap test same ∙ h)
  where
    first : (t u : Bool) → t ≡ true → (t || u) ≡ true
    first true u e = refl
    first false u e = absurd cc
any_here test (y ∷ ys) (suc k) x at h = second (test y) (list_any test ys) (any_here test ys k x at h)
  where
    second : (t u : Bool) → u ≡ true → (t || u) ≡ true
    second true u e = refl
    second false u e = e

module _ (compare : Comparison) (o : IsTotalOrder compare) (d : Delta) (xs : List Tree) (leads : LeadsFrom d xs) where
  abbrev ys : List Tree
  ys = applied d xs

  pub old_meets : (c : Class) → IsWhole compare o xs c → (i : ℕ) → In i c → is_kept_old (pairs d) i ≡ true
      → list_any (of_key compare xs ys c) (classes compare ys) ≡ true
  old_meets c whole i member kept =
      let p = partner_of_old (pairs d) i kept in
      let one = plain_one d xs leads i p.0 p.1 in
      let found = find_class compare o ys p.0 (classes compare ys) (are_classes compare o ys).each (all_joined compare o ys p.0 (omega (arith, one.new_within, length-applied d xs leads))) in
      let tied : compare (element_at xs (first_of c)) (element_at ys p.0) ≡ Equal = ap (compare (element_at xs (first_of c))) (sym one.same) ∙ (member_is compare o xs c whole.class i member).tied in
      any_here (of_key compare xs ys c) (classes compare ys) found.index found.class found.at
      (tied_is_key _ (o.congr _ _ (element_at ys (first_of found.class)) tied ∙ tied_back o _ _ found.tied))

  pub new_meets : (e : Class) → IsWhole compare o ys e → (j : ℕ) → In j e → is_kept_new (pairs d) j ≡ true
      → list_any (λ c. of_key compare xs ys c e) (classes compare xs) ≡ true
  new_meets e whole j member kept =
      let p = partner_of_new (pairs d) j kept in
      let one = plain_one d xs leads p.0 j p.1 in
      let found = find_class compare o xs p.0 (classes compare xs) (are_classes compare o xs).each (all_joined compare o xs p.0 (omega (arith, one.old_within, length_from d xs leads))) in
      let tied : compare (element_at ys (first_of e)) (element_at xs p.0) ≡ Equal = ap (compare (element_at ys (first_of e))) one.same ∙ (member_is compare o ys e whole.class j member).tied in
      any_here (λ c. of_key compare xs ys c e) (classes compare xs) found.index found.class found.at
      (tied_is_key _ (o.congr _ _ (element_at ys (first_of e)) found.tied ∙ tied_back o _ _ tied))

  -- where no member of c is kept, none is of the class of its key
  pub none_kept_meets : (c e : Class) → IsWhole compare o xs c → IsWhole compare o ys e → of_key compare xs ys c e ≡ true
      → ((i : ℕ) → In i c → is_kept_old (pairs d) i ≡ false) → (j : ℕ) → In j e → is_kept_new (pairs d) j ≡ true → ⊥
  none_kept_meets c e whole whole_too key none j member kept =
      let p = partner_of_new (pairs d) j kept in
      let one = plain_one d xs leads p.0 j p.1 in
      let tied : compare (element_at xs (first_of c)) (element_at ys j) ≡ Equal =
      o.congr _ _ (element_at ys j) (key_tied _ key) ∙ (member_is compare o ys e whole_too.class j member).tied in
      let here : In p.0 c = whole.full p.0 (omega (arith, one.old_within, length_from d xs leads)) (ap (compare (element_at xs (first_of c))) one.same ∙ tied) in
      let fails = none p.0 here in
      let holds = kept_by_old (pairs d) p.0 j p.1 in
      absurd (true_false (sym holds ∙ fails))
    where
      true_false : true ≡ false → ⊥
      true_false e = absurd cc

  -- and the other way round
  pub none_kept_met : (c e : Class) → IsWhole compare o xs c → IsWhole compare o ys e → of_key compare xs ys c e ≡ true
      → ((j : ℕ) → In j e → is_kept_new (pairs d) j ≡ false) → (i : ℕ) → In i c → is_kept_old (pairs d) i ≡ true → ⊥
  none_kept_met c e whole whole_too key none i member kept =
      let p = partner_of_old (pairs d) i kept in
      let one = plain_one d xs leads i p.0 p.1 in
      let tied : compare (element_at ys (first_of e)) (element_at xs i) ≡ Equal =
      o.congr _ _ (element_at xs i) (tied_back o _ _ (key_tied _ key)) ∙ (member_is compare o xs c whole.class i member).tied in
      let here : In p.0 e = whole_too.full p.0 (omega (arith, one.new_within, length-applied d xs leads)) (ap (compare (element_at ys (first_of e))) (sym one.same) ∙ tied) in
      let fails = none p.0 here in
      let holds = kept_by_new (pairs d) i p.0 p.1 in
      absurd (true_false (sym holds ∙ fails))
    where
      true_false : true ≡ false → ⊥
      true_false e = absurd cc
