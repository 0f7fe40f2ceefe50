-- The classes of a list lie one after another in its sorted order, their keys rise, and the first member of each is the one
-- that hasn't the key of the one before it.
use Rattle.std.proofs.Common.{◌≡◌, ◌∙◌, ◌⊎◌, ℕ, suc, ◌<◌, ◌++◌, Bool, true, false, List, [], ◌∷◌, map, refl, ap, sym, subst, arith, inl, inr}
use Rattle.std.specs.Prelude.{not}
use Rattle.std.specs.List.{AllByRecursion as Each}
use Rattle.std.specs.Cmp.{IsTotalOrder}
use Rattle.std.specs.Ordering.{is_eq}
use Rattle.std.specs.declared.cmp.Ordering.{Ordering}
use Rattle.std.specs.declared.cmp.Ordering.TheVariants.{Less, Equal, Greater}
use Rattle.std.proofs.lemmas.Bool.{cases_Bool}
use Rattle.spec_value.specs.Tree.{Tree}
use Rattle.spec_views.specs.Source.{element_at}
use Rattle.spec_views.specs.Arrangement.{Comparison, is_before, arrangement, marks_after}
use Rattle.spec_views.specs.Classes.{Class, first_of, has_key_of, with_member, classes_among, classes}
use Rattle.spec_views.proofs.SortedPositions.{Sorted}
use Rattle.spec_views.proofs.Arrangements.{before_cases, arrangement_is, sorted_arrangement}
use Rattle.spec_sorting.specs.Moves.{IsRising}
use Rattle.spec_sorting.proofs.Partners.{each_weaker}
use Rattle.spec_classes.specs.Members.{firsts, IsClass, AreClasses}

module _ (compare : Comparison) (o : IsTotalOrder compare) (xs : List Tree) where
  -- one that compares as equal has the key
  tied_key : (r : Ordering) → is_eq r ≡ true → r ≡ Equal
  tied_key Less e = absurd cc
  tied_key Equal e = refl
  tied_key Greater e = absurd cc

  not_key : (r : Ordering) → r ≡ Equal → is_eq r ≡ false → ⊥
  not_key Less e f = absurd cc
  not_key Equal e f = absurd cc
  not_key Greater e f = absurd cc

  less_not : (r : Ordering) → r ≡ Less → is_eq r ≡ true → ⊥
  less_not Less e f = absurd cc
  less_not Equal e f = absurd cc
  less_not Greater e f = absurd cc

  abbrev Before : ℕ → ℕ → Type 0
  Before i j = (compare (element_at xs i) (element_at xs j) ≡ Less) ⊎ ((compare (element_at xs i) (element_at xs j) ≡ Equal) × (i < j))

  less_on : (i j k : ℕ) → Before i j → compare (element_at xs j) (element_at xs k) ≡ Less → compare (element_at xs i) (element_at xs k) ≡ Less
  less_on i j k (inl less) more = o.trans _ _ _ less more
  less_on i j k (inr tied) more = o.congr _ _ (element_at xs k) tied.0 ∙ more

  -- one more member in front of the first class
  joins : (i k : ℕ) (ks : List ℕ) (cs : List Class) (is : List ℕ) → Before i k → has_key_of compare xs xs i k ≡ true
      → AreClasses compare xs (k ∷ is) ((k ∷ ks) ∷ cs) → AreClasses compare xs (i ∷ k ∷ is) ((i ∷ k ∷ ks) ∷ cs)
  joins i k ks cs is before same g =
      let tied : compare (element_at xs i) (element_at xs k) ≡ Equal = tied_key _ same in
      let less : i < k = smaller before in
      record {
        whole = ap (λ js. i ∷ js) g.whole;
        each = (
          record {
            first = i;
            others = k ∷ ks;
            are = refl;
            tied = ((tied, less), all_tied tied less g.each.0);
            in_order = (omega (arith, less), order_on g.each.0);
          },
          g.each.1,
        );
        rise = (each_weaker _ _ (λ e more. less_on i k (first_of e) before more) cs g.rise.0, g.rise.1);
        marks = rw same (both true false (map not (marks_after compare xs k is)) (map (λ j. false) ks ++ firsts cs) (tail g.marks));
      }
    where
      smaller : Before i k → i < k
      smaller (inl l) = absurd (less_not _ l same)
      smaller (inr t) = t.1

      all_tied : compare (element_at xs i) (element_at xs k) ≡ Equal → i < k → IsClass compare xs (k ∷ ks)
          → Each (λ j. (compare (element_at xs i) (element_at xs j) ≡ Equal) × (i < j)) ks
      all_tied tied less c = by c.first c.others c.are c.tied
        where
          by : (f : ℕ) (fs : List ℕ) → k ∷ ks ≡ f ∷ fs → Each (λ j. (compare (element_at xs f) (element_at xs j) ≡ Equal) × (f < j)) fs
              → Each (λ j. (compare (element_at xs i) (element_at xs j) ≡ Equal) × (i < j)) ks
          by f fs e h =
              let heads : f ≡ k = cc in
              let tails : fs ≡ ks = cc in
              let here : Each (λ j. (compare (element_at xs k) (element_at xs j) ≡ Equal) × (k < j)) ks =
              subst (λ js. Each (λ j. (compare (element_at xs k) (element_at xs j) ≡ Equal) × (k < j)) js) tails
              (subst (λ m. Each (λ j. (compare (element_at xs m) (element_at xs j) ≡ Equal) × (m < j)) fs) heads h) in
              each_weaker (λ j. (compare (element_at xs k) (element_at xs j) ≡ Equal) × (k < j)) (λ j. (compare (element_at xs i) (element_at xs j) ≡ Equal) × (i < j))
              (λ j t. (o.congr _ _ (element_at xs j) tied ∙ t.0, omega (arith, less, t.1))) ks here

      order_on : IsClass compare xs (k ∷ ks) → IsRising (suc k) ks
      order_on c = by c.first c.others c.are c.in_order
        where
          by : (f : ℕ) (fs : List ℕ) → k ∷ ks ≡ f ∷ fs → IsRising (suc f) fs → IsRising (suc k) ks
          by f fs e h =
              let heads : f ≡ k = cc in
              let tails : fs ≡ ks = cc in
              subst (λ js. IsRising (suc k) js) tails (subst (λ m. IsRising (suc m) fs) heads h)

      both : (t u : Bool) (us vs : List Bool) → us ≡ vs → t ∷ u ∷ us ≡ t ∷ u ∷ vs
      both t u us vs e = cc

      tail : {us vs : List Bool} → true ∷ us ≡ true ∷ vs → us ≡ vs
      tail e = cc

  -- a class more, of lesser key
  begins_class : (i k : ℕ) (ks : List ℕ) (cs : List Class) (is : List ℕ) → Before i k → has_key_of compare xs xs i k ≡ false
      → AreClasses compare xs (k ∷ is) ((k ∷ ks) ∷ cs) → AreClasses compare xs (i ∷ k ∷ is) ((i ∷ []) ∷ (k ∷ ks) ∷ cs)
  begins_class i k ks cs is before other g =
      let less : compare (element_at xs i) (element_at xs k) ≡ Less = strictly before in
      record {
        whole = ap (λ js. i ∷ js) g.whole;
        each = (record { first = i; others = []; are = refl; tied = tt; in_order = tt }, g.each);
        rise = ((less, each_weaker _ _ (λ e more. less_on i k (first_of e) before more) cs g.rise.0), g.rise);
        marks = rw other (ap (λ ms. true ∷ ms) g.marks);
      }
    where
      strictly : Before i k → compare (element_at xs i) (element_at xs k) ≡ Less
      strictly (inl l) = l
      strictly (inr t) = absurd (not_key _ t.0 other)

  with_more : (i j : ℕ) (is : List ℕ) (cs : List Class) → is_before compare xs i j ≡ true
      → AreClasses compare xs (j ∷ is) cs → AreClasses compare xs (i ∷ j ∷ is) (with_member compare xs i cs)
  with_more i j is [] before g = absurd (let e = g.whole in cc)
  with_more i j is ([] ∷ cs) before g = absurd (let e = g.each.0.are in cc)
  with_more i j is ((k ∷ ks) ∷ cs) before g =
      let heads : k ≡ j = head g.whole in
      subst (λ m. AreClasses compare xs (i ∷ m ∷ is) (with_member compare xs i ((k ∷ ks) ∷ cs))) heads
      (elim (cases_Bool (has_key_of compare xs xs i k)) [
        | inl same ↦ rw same (joins i k ks cs is (here heads) same (there heads))
        | inr other ↦ rw other (begins_class i k ks cs is (here heads) other (there heads))
      ])
    where
      head : {m n : ℕ} {ms ns : List ℕ} → m ∷ ms ≡ n ∷ ns → m ≡ n
      head e = cc

      here : k ≡ j → Before i k
      here e = before_cases compare xs i k (ap (is_before compare xs i) e ∙ before)

      there : k ≡ j → AreClasses compare xs (k ∷ is) ((k ∷ ks) ∷ cs)
      there e = subst (λ m. AreClasses compare xs (m ∷ is) ((k ∷ ks) ∷ cs)) (sym e) g

  all_classes : (is : List ℕ) → Sorted (is_before compare xs) is → AreClasses compare xs is (classes_among compare xs is)
  all_classes [] s = record { whole = refl; each = tt; rise = tt; marks = refl }
  all_classes (i ∷ []) s = record {
    whole = refl;
    each = (record { first = i; others = []; are = refl; tied = tt; in_order = tt }, tt);
    rise = (tt, tt);
    marks = refl;
  }
  all_classes (i ∷ j ∷ is) s = with_more i j is (classes_among compare xs (j ∷ is)) s.0.0 (all_classes (j ∷ is) s.1)

  pub are_classes : AreClasses compare xs (arrangement compare xs) (classes compare xs)
  are_classes = all_classes (arrangement compare xs) (sorted_arrangement compare o xs (arrangement compare xs) (arrangement_is compare o xs))
