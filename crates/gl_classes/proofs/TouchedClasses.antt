-- What the touched classes of a list are, by its classes.
use Rattle.std.proofs.Common.{◌≡◌, ◌≢◌, ◌∙◌, ℕ, zero, suc, ◌<◌, ◌≤◌, ◌&&◌, Bool, true, false, List, [], ◌∷◌, length, map, refl, ap, sym, subst, arith, inl, inr}
use Rattle.std.specs.Prelude.{Option, Some, None, slice_get}
use Rattle.std.specs.Option.{is_some}
use Rattle.std.specs.List.{list_all, AllByRecursion as Each}
use Rattle.std.specs.Cmp.{IsTotalOrder, tied_back}
use Rattle.std.specs.declared.cmp.Ordering.TheVariants.{Less, Equal}
use Rattle.std.proofs.lemmas.Bool.{cases_order, cases_Bool, eqb-true}
use Rattle.std.proofs.lemmas.Option.{slice_get_within}
use Rattle.std.proofs.lemmas.List.{length-map, length-append}
use Rattle.spec_sorting.specs.Tree.{Tree}
use Rattle.spec_sorting.specs.Source.{element_at}
use Rattle.spec_sorting.specs.Sides.{Item, plain, changed, lone}
use Rattle.spec_sorting.specs.Arrangement.{Comparison, arrangement}
use Rattle.spec_sorting.proofs.SortedPositions.{In}
use Rattle.spec_sorting.proofs.Arrangements.{arrangement_is, before_cases}
use Rattle.spec_classes.specs.Classes.{Class, first_of, classes}
use Rattle.spec_classes.specs.Members.{joined, first_marks, firsts, IsClass, AreClasses}
use Rattle.spec_classes.proofs.Members.{are_classes}
use Rattle.spec_classes.proofs.Keys.{member_is}
use Rattle.gl_arranged.specs.Changes.{AreRanked}
use Rattle.gl_arranged.specs.declared.changed.Ranked.{Ranked}
use Rattle.gl_classes.specs.declared.touched.Touched.{Touched}
use Rattle.gl_classes.specs.Touching.{class_of, places, IsPlain, IsTouched, AreTouched}
use Rattle.gl_classes.proofs.Positions.{IsPlaced, placed, place_of}
use Rattle.gl_classes.proofs.ChangedPlaces.{StandsThere, ranked_there, changed_there}

some_same : {X : Type 0} (x y : X) → Some x ≡ Some y → x ≡ y
some_same x y e = cc

each_at : {X : Type 0} (P : X → Type 0) (xs : List X) (k : ℕ) (x : X) → Each P xs → slice_get xs k ≡ Some x → P x
each_at P [] k x e at = absurd cc
each_at P (y ∷ ys) zero x e at = let same : y ≡ x = cc in subst P same e.0
each_at P (y ∷ ys) (suc k) x e at = each_at P ys k x e.1 at

at_within : (is : List ℕ) (k : ℕ) → k < length is → (i : ℕ) × (slice_get is k ≡ Some i)
at_within [] k less = absurd (omega (arith, less))
at_within (i ∷ is) zero less = (i, refl)
at_within (i ∷ is) (suc k) less = at_within is k (omega (arith, less))

in_at : (p : ℕ) (rs : List Ranked) → In p (places rs) → (k : ℕ) × (r : Ranked) × (slice_get rs k ≡ Some r) × (p ≡ r.place)
in_at p [] found = absurd found
in_at p (r ∷ rs) (inl same) = (0, r, refl, same)
in_at p (r ∷ rs) (inr later) = let more = in_at p rs later in (suc more.0, more.1, more.2, more.3)

first_marks_long : (c : Class) → length (first_marks c) ≡ length c
first_marks_long [] = refl
first_marks_long (i ∷ is) = ap suc (length-map is (λ j. false))

-- there is a mark for each member
pub firsts_long : (cs : List Class) → length (firsts cs) ≡ length (joined cs)
firsts_long [] = refl
firsts_long (c ∷ cs) = length-append (first_marks c) (firsts cs) ∙ (omega (arith, first_marks_long c, firsts_long cs, length-append c (joined cs)))

-- whether an element is kept, by the items of its list
pub record KeepsBy (kept : ℕ → Bool) (items : List Item) : Type 0 where
  pub plain_kept : (i j : ℕ) → slice_get items i ≡ Some (plain j) → kept i ≡ true
  pub kept_plain : (i : ℕ) → kept i ≡ true → (j : ℕ) × (slice_get items i ≡ Some (plain j))

-- a touched class of a list
pub record IsTouchedClass (zs : List Tree) (compare : Comparison) (kept : ℕ → Bool) (t : Touched) : Type 0 where
  pub class : Class
  pub at : slice_get (classes compare zs) t.class ≡ Some class
  pub member : In t.source class
  pub changed : kept t.source ≡ false
  pub first_changed : t.first ≡ true → first_of class ≡ t.source
  pub first_kept : t.first ≡ false → kept (first_of class) ≡ true
  pub stays_is : t.stays ≡ is_some t.plain
  pub none_kept : t.plain ≡ None → (i : ℕ) → In i class → kept i ≡ false
  pub some_kept : (q : ℕ) → t.plain ≡ Some q
      → (j : ℕ) × (slice_get (arrangement compare zs) q ≡ Some j) × In j class × (kept j ≡ true) × ((i : ℕ) → In i class → kept i ≡ true → j ≤ i)

module _ (compare : Comparison) (o : IsTotalOrder compare) (zs : List Tree) (items : List Item) (long : length items ≡ length zs)
    (ranked : List Ranked) (are : AreRanked (arrangement compare zs) items ranked) (kept : ℕ → Bool) (keeps : KeepsBy kept items) where
  abbrev cs : List Class
  cs = classes compare zs

  abbrev is : List ℕ
  is = arrangement compare zs

  class_all : AreClasses compare zs is cs
  class_all = are_classes compare o zs

  -- what stands at a place
  at_place : (p i : ℕ) → slice_get is p ≡ Some i → IsPlaced cs p i
  at_place p i at = placed compare zs cs class_all.each p i (ap (λ js. slice_get js p) class_all.whole ∙ at)

  there : (k : ℕ) (r : Ranked) → slice_get ranked k ≡ Some r → StandsThere compare zs items r
  there k r at = each_at (StandsThere compare zs items) ranked k r (ranked_there compare o zs items long ranked are) at

  not_kept : (i : ℕ) → ((j : ℕ) → slice_get items i ≡ Some (plain j) → ⊥) → kept i ≡ false
  not_kept i other = elim (cases_Bool (kept i)) [
    | inl holds ↦ let p = keeps.kept_plain i holds in absurd (other p.0 p.1)
    | inr fails ↦ fails
  ]

  -- an element that stands at none of these places is kept
  kept_at : (p i : ℕ) → slice_get is p ≡ Some i → (In p (places ranked) → ⊥) → kept i ≡ true
  kept_at p i at none = by (slice_get items i) refl
    where
      within : i < length items
      within = let less = (arrangement_is compare o zs).within p i at in omega (arith, less, long)

      not_plain : (t : Item) → ((j : ℕ) → t ≢ plain j) → slice_get items i ≡ Some t → kept i ≡ true
      not_plain t ne e = absurd (none (changed_there compare o zs items long ranked are p i at (λ j f. ne j (some_same t (plain j) (sym e ∙ f)))))

      past : (us : List Item) (n : ℕ) → n < length us → slice_get us n ≡ None → ⊥
      past [] n less e = omega (arith, less)
      past (u ∷ us) zero less e = absurd cc
      past (u ∷ us) (suc n) less e = past us n (omega (arith, less)) e

      by : (t : Option Item) → slice_get items i ≡ t → kept i ≡ true
      by None e = absurd (past items i within e)
      by (Some (plain j)) e = keeps.plain_kept i j e
      by (Some (changed j v)) e = not_plain (changed j v) (λ k f. absurd cc) e
      by (Some (lone v)) e = not_plain (lone v) (λ k f. absurd cc) e

  changed_at : (p i : ℕ) → slice_get is p ≡ Some i → In p (places ranked) → kept i ≡ false
  changed_at p i at found =
      let f = in_at p ranked found in
      let h = there f.0 f.1 f.2 in
      let same : f.1.source ≡ i = some_same f.1.source i (sym h.at ∙ (ap (slice_get is) (sym f.3) ∙ at)) in
      not_kept i (λ j e. h.changed.other j (ap (slice_get items) same ∙ e))

  -- two members of a class stand in source order
  in_order : (p q i j : ℕ) → slice_get is p ≡ Some i → slice_get is q ≡ Some j → class_of (firsts cs) p ≡ class_of (firsts cs) q → p < q → i < j
  in_order p q i j at_p at_q same less =
      let a = at_place p i at_p in
      let b = at_place q j at_q in
      let index : a.index ≡ b.index = omega (arith, a.number, b.number, same) in
      let class : a.class ≡ b.class = some_same a.class b.class (sym a.at ∙ (ap (slice_get cs) index ∙ b.at)) in
      let whole = each_at (IsClass compare zs) cs a.index a.class class_all.each a.at in
      let one = member_is compare o zs a.class whole i a.member in
      let other = member_is compare o zs a.class whole j (subst (In j) (sym class) b.member) in
      let tied : compare (element_at zs i) (element_at zs j) ≡ Equal = o.congr _ _ (element_at zs j) (tied_back o _ _ one.tied) ∙ other.tied in
      elim (before_cases compare zs i j ((arrangement_is compare o zs).sorted p q i j less at_p at_q)) [
        | inl lower ↦ absurd (less_tied lower tied)
        | inr equal ↦ equal.1
      ]
    where
      less_tied : {r : _} → r ≡ Less → r ≡ Equal → ⊥
      less_tied e f = let g : Less ≡ Equal = sym e ∙ f in absurd cc

  place_in : (k i : ℕ) (c : Class) → slice_get cs k ≡ Some c → In i c → (p : ℕ) × (slice_get is p ≡ Some i) × (class_of (firsts cs) p ≡ suc k)
  place_in k i c at found =
      let h = place_of compare zs cs class_all.each k i c at found in
      (h.place, ap (λ js. slice_get js h.place) (sym class_all.whole) ∙ h.at, h.number)

  -- where a place is of a class, its element is a member
  member_at : (p i k : ℕ) (c : Class) → slice_get is p ≡ Some i → class_of (firsts cs) p ≡ suc k → slice_get cs k ≡ Some c → In i c
  member_at p i k c at number here =
      let a = at_place p i at in
      let index : a.index ≡ k = omega (arith, a.number, number) in
      subst (In i) (some_same a.class c (sym a.at ∙ (ap (slice_get cs) index ∙ here))) a.member

  pub touched_class : (t : Touched) → IsTouched (firsts cs) ranked t → IsTouchedClass zs compare kept t
  touched_class t h =
      let one = there h.index h.one h.here in
      let a = at_place h.one.place h.one.source one.at in
      let index : a.index ≡ t.class = omega (arith, a.number, h.class_is) in
      let here : slice_get cs t.class ≡ Some a.class = ap (slice_get cs) (sym index) ∙ a.at in
      let whole = each_at (IsClass compare zs) cs a.index a.class class_all.each a.at in
      let start = at_within is h.start (let less = slice_get_within is h.one.place h.one.source one.at in omega (arith, less, h.start_low)) in
      let inside = member_at h.start start.0 t.class a.class start.1 h.start_class here in
      let f = place_in t.class (first_of a.class) a.class here (first_in a.class whole) in
      let first_at : first_of a.class ≡ start.0 =
      elim (cases_order f.0 h.start) [
        | inl same ↦ some_same (first_of a.class) start.0 (sym f.1 ∙ (ap (slice_get is) same ∙ start.1))
        | inr (inl less) ↦ absurd (let low = h.start_first f.0 less in omega (arith, low, f.2))
        | inr (inr more) ↦
            let lower = in_order h.start f.0 start.0 (first_of a.class) start.1 f.1 (h.start_class ∙ sym f.2) more in
            let low = (member_is compare o zs a.class whole start.0 inside).low in
            absurd (omega (arith, lower, low))
      ] in
      record {
        class = a.class;
        at = here;
        member = subst (λ i. In i a.class) (sym h.source_is) a.member;
        changed = ap kept h.source_is ∙ not_kept h.one.source one.changed.other;
        first_changed = λ e.
            let same : h.start ≡ h.one.place = eqb-true h.start h.one.place (sym h.first_is ∙ e) in
            first_at ∙ (some_same start.0 h.one.source (sym start.1 ∙ (ap (slice_get is) same ∙ one.at)) ∙ sym h.source_is);
        first_kept = λ e. ap kept first_at ∙ kept_at h.start start.0 start.1 (h.start_plain e);
        stays_is = h.stays_is;
        none_kept = λ e i found.
            let p = place_in t.class i a.class here found in
            changed_at p.0 i p.1 (none_plain t.plain e h.plain_is p.0 (count_within p.0 i p.1) p.2);
        some_kept = λ q e.
            let plain_is = some_plain t.plain q e h.plain_is in
            let j = at_within is q (marks_within q plain_is.0) in (
              j.0,
              j.1,
              member_at q j.0 t.class a.class j.1 plain_is.1 here,
              kept_at q j.0 j.1 plain_is.2,
              λ i found holds.
                  let p = place_in t.class i a.class here found in
                  elim (cases_order q p.0) [
                    | inl same ↦ let e_is : j.0 ≡ i = some_same j.0 i (sym j.1 ∙ (ap (slice_get is) same ∙ p.1)) in omega (arith, e_is)
                    | inr (inl less) ↦ let lower = in_order q p.0 j.0 i j.1 p.1 (plain_is.1 ∙ sym p.2) less in omega (arith, lower)
                    | inr (inr more) ↦ absurd (true_false (sym holds ∙ changed_at p.0 i p.1 (plain_is.3 p.0 p.2 more)))
                  ],
            );
      }
    where
      true_false : true ≡ false → ⊥
      true_false e = absurd cc

      first_in : (c : Class) → IsClass compare zs c → In (first_of c) c
      first_in c w = subst (λ b. In (first_of b) b) (sym w.are) (inl refl)

      marks_long : length (firsts cs) ≡ length is
      marks_long = firsts_long cs ∙ ap length class_all.whole

      marks_within : (q : ℕ) → q < length (firsts cs) → q < length is
      marks_within q less = omega (arith, less, marks_long)

      count_within : (p i : ℕ) → slice_get is p ≡ Some i → p < length (firsts cs)
      count_within p i at = let less = slice_get_within is p i at in omega (arith, less, marks_long)

      none_plain : (q : Option ℕ) → q ≡ None → IsPlain (firsts cs) (places ranked) t.class q
          → (p : ℕ) → p < length (firsts cs) → class_of (firsts cs) p ≡ suc t.class → In p (places ranked)
      none_plain None e all = all
      none_plain (Some q) e all = absurd cc

      some_plain : (q : Option ℕ) (n : ℕ) → q ≡ Some n → IsPlain (firsts cs) (places ranked) t.class q
          → (n < length (firsts cs)) × (class_of (firsts cs) n ≡ suc t.class) × (In n (places ranked) → ⊥) × ((p : ℕ) → class_of (firsts cs) p ≡ suc t.class → p < n → In p (places ranked))
      some_plain None n e all = absurd cc
      some_plain (Some q) n e all = subst (λ m. (m < length (firsts cs)) × (class_of (firsts cs) m ≡ suc t.class) × (In m (places ranked) → ⊥) × ((p : ℕ) → class_of (firsts cs) p ≡ suc t.class → p < m → In p (places ranked))) (some_same q n e) all

  all_true : (test : ℕ → Bool) (c : Class) → ((i : ℕ) → In i c → test i ≡ true) → list_all test c ≡ true
  all_true test [] h = refl
  all_true test (i ∷ js) h = both (test i) (list_all test js) (h i (inl refl)) (all_true test js (λ j found. h j (inr found)))
    where
      both : (t u : Bool) → t ≡ true → u ≡ true → (t && u) ≡ true
      both t u e f = rw (e, f) refl

  -- all members of the other classes are kept
  pub other_class : (ts : List Touched) → AreTouched (firsts cs) ranked ts → (r : ℕ) (c : Class) → slice_get cs r ≡ Some c
      → (In r (map (λ t. t.class) ts) → ⊥) → list_all kept c ≡ true
  other_class ts h r c at none =
      all_true kept c (λ i found.
      let p = place_in r i c at found in
      kept_at p.0 i p.1 (λ there_too. none (h.all p.0 r there_too p.2)))
