-- Which class the element at a sorted place is of, by the marks of the first members.
use Rattle.std.proofs.Common.{◌≡◌, ◌∙◌, ◌⊎◌, ℕ, zero, suc, ◌≤◌, ◌++◌, Bool, true, false, List, [], ◌∷◌, length, map, take, refl, ap, sym, subst, arith, inl, inr}
use Rattle.std.specs.Prelude.{Some, slice_get}
use Rattle.std.specs.List.{AllByRecursion as Each}
use Rattle.spec_sorting.specs.Tree.{Tree}
use Rattle.spec_sorting.specs.Arrangement.{Comparison}
use Rattle.spec_sorting.proofs.SortedPositions.{In}
use Rattle.spec_classes.specs.Classes.{Class, first_of}
use Rattle.spec_classes.specs.Members.{joined, firsts, IsClass}
use Rattle.gl_barcode.specs.Bars.{count_shown}
use Rattle.gl_classes.specs.Touching.{class_of}

-- what stands at a sorted place, and which class it is of
pub record IsPlaced (cs : List Class) (place i : ℕ) : Type 0 where
  pub index : ℕ
  pub class : Class
  pub at : slice_get cs index ≡ Some class
  pub member : In i class
  pub number : class_of (firsts cs) place ≡ suc index
  pub first : slice_get (firsts cs) place ≡ Some true → i ≡ first_of class

pub count_true : (bs : List Bool) → count_shown (true ∷ bs) ≡ suc (count_shown bs)
unfolding count_shown
count_true bs = omega arith

pub count_false : (bs : List Bool) → count_shown (false ∷ bs) ≡ count_shown bs
unfolding count_shown
count_false bs = omega arith

pub count_none : count_shown [] ≡ 0
unfolding count_shown
count_none = refl

module _ (compare : Comparison) (xs : List Tree) where
  -- the places after the first member of a class
  after_first : (f : ℕ) (ks gs : List ℕ) (cs : List Class) (q i : ℕ)
      → ((j : ℕ) → In j gs → In j ks)
      → ((p : ℕ) → slice_get (joined cs) p ≡ Some i → IsPlaced cs p i)
      → slice_get (gs ++ joined cs) q ≡ Some i
      → (In i ks × (count_shown (take (suc q) (map (λ j. false) gs ++ firsts cs)) ≡ 0) × (slice_get (map (λ j. false) gs ++ firsts cs) q ≡ Some true → ⊥))
      ⊎ ((k : ℕ) × (c : Class) × (slice_get cs k ≡ Some c) × In i c × (count_shown (take (suc q) (map (λ j. false) gs ++ firsts cs)) ≡ suc k)
      × (slice_get (map (λ j. false) gs ++ firsts cs) q ≡ Some true → i ≡ first_of c))
  after_first f ks [] cs q i inside later at = let p = later q at in inr (p.index, p.class, p.at, p.member, p.number, p.first)
  after_first f ks (g ∷ gs) cs zero i inside later at = let same : g ≡ i = cc in inl (inside i (inl (sym same)), count_false [] ∙ count_none, λ e. absurd cc)
  after_first f ks (g ∷ gs) cs (suc q) i inside later at =
      elim (after_first f ks gs cs q i (λ j found. inside j (inr found)) later at) [
        | inl here ↦ inl (here.0, count_false (take (suc q) (map (λ j. false) gs ++ firsts cs)) ∙ here.1, here.2)
        | inr more ↦ inr (more.0, more.1, more.2, more.3, count_false (take (suc q) (map (λ j. false) gs ++ firsts cs)) ∙ more.4, more.5)
      ]

  pub placed : (cs : List Class) → Each (IsClass compare xs) cs → (place i : ℕ) → slice_get (joined cs) place ≡ Some i → IsPlaced cs place i
  placed [] each place i at = absurd cc
  placed ([] ∷ cs) each place i at = absurd (let e = each.0.are in cc)
  placed ((f ∷ fs) ∷ cs) each zero i at =
      let same : f ≡ i = cc in
      record { index = 0; class = f ∷ fs; at = refl; member = inl (sym same); number = count_true [] ∙ ap suc count_none; first = λ e. sym same }
  placed ((f ∷ fs) ∷ cs) each (suc q) i at =
      elim (after_first f fs fs cs q i (λ j found. found) (λ p here. placed cs each.1 p i here) at) [
        | inl here ↦ record {
          index = 0;
          class = f ∷ fs;
          at = refl;
          member = inr here.0;
          number = count_true (take (suc q) (map (λ j. false) fs ++ firsts cs)) ∙ ap suc here.1;
          first = λ e. absurd (here.2 e);
        }
        | inr later ↦ record {
          index = suc later.0;
          class = later.1;
          at = later.2;
          member = later.3;
          number = count_true (take (suc q) (map (λ j. false) fs ++ firsts cs)) ∙ ap suc later.4;
          first = later.5;
        }
      ]

-- how many classes there are
module _ (compare : Comparison) (xs : List Tree) where
  count_falses : (ks : List ℕ) (bs : List Bool) → count_shown (map (λ j. false) ks ++ bs) ≡ count_shown bs
  count_falses [] bs = refl
  count_falses (k ∷ ks) bs = count_false (map (λ j. false) ks ++ bs) ∙ count_falses ks bs

  pub class_count : (cs : List Class) → Each (IsClass compare xs) cs → count_shown (firsts cs) ≡ length cs
  class_count [] each = count_none
  class_count ([] ∷ cs) each = absurd (let e = each.0.are in cc)
  class_count ((f ∷ fs) ∷ cs) each =
      count_true (map (λ j. false) fs ++ firsts cs) ∙ ap suc (count_falses fs (firsts cs) ∙ class_count cs each.1)

  -- each member of a class stands at a place of its number
  pub record HasPlace (cs : List Class) (k i : ℕ) : Type 0 where
    pub place : ℕ
    pub at : slice_get (joined cs) place ≡ Some i
    pub number : class_of (firsts cs) place ≡ suc k

  later_place : (gs : List ℕ) (cs : List Class) (k i : ℕ) → HasPlace cs k i
      → (q : ℕ) × (slice_get (gs ++ joined cs) q ≡ Some i) × (count_shown (take (suc q) (map (λ j. false) gs ++ firsts cs)) ≡ suc k)
  later_place [] cs k i h = (h.place, h.at, h.number)
  later_place (g ∷ gs) cs k i h =
      let more = later_place gs cs k i h in
      (suc more.0, more.1, count_false (take (suc more.0) (map (λ j. false) gs ++ firsts cs)) ∙ more.2)

  inside_place : (gs : List ℕ) (cs : List Class) (i : ℕ) → In i gs
      → (q : ℕ) × (slice_get (gs ++ joined cs) q ≡ Some i) × (count_shown (take (suc q) (map (λ j. false) gs ++ firsts cs)) ≡ 0)
  inside_place [] cs i found = absurd found
  inside_place (g ∷ gs) cs i (inl same) = (0, ap Some (sym same), count_false [] ∙ count_none)
  inside_place (g ∷ gs) cs i (inr found) =
      let more = inside_place gs cs i found in
      (suc more.0, more.1, count_false (take (suc more.0) (map (λ j. false) gs ++ firsts cs)) ∙ more.2)

  pub place_of : (cs : List Class) → Each (IsClass compare xs) cs → (k i : ℕ) (c : Class) → slice_get cs k ≡ Some c → In i c → HasPlace cs k i
  place_of [] each k i c at found = absurd cc
  place_of ([] ∷ cs) each k i c at found = absurd (let e = each.0.are in cc)
  place_of ((f ∷ fs) ∷ cs) each zero i c at found =
      let same : c ≡ f ∷ fs = cc in
      here (subst (In i) same found)
    where
      here : In i (f ∷ fs) → HasPlace ((f ∷ fs) ∷ cs) 0 i
      here (inl same) = record { place = 0; at = ap Some (sym same); number = count_true [] ∙ ap suc count_none }
      here (inr later) =
          let q = inside_place fs cs i later in
          record { place = suc q.0; at = q.1; number = count_true (take (suc q.0) (map (λ j. false) fs ++ firsts cs)) ∙ ap suc q.2 }
  place_of ((f ∷ fs) ∷ cs) each (suc k) i c at found =
      let q = later_place fs cs k i (place_of cs each.1 k i c at found) in
      record { place = suc q.0; at = q.1; number = count_true (take (suc q.0) (map (λ j. false) fs ++ firsts cs)) ∙ ap suc q.2 }

-- counts of marks up to a place
pub count_more : (bs : List Bool) (m n : ℕ) → m ≤ n → count_shown (take m bs) ≤ count_shown (take n bs)
count_more bs zero n less = omega (arith, count_none)
count_more [] (suc m) zero less = absurd (omega (arith, less))
count_more [] (suc m) (suc n) less = omega arith
count_more (b ∷ bs) (suc m) zero less = absurd (omega (arith, less))
count_more (true ∷ bs) (suc m) (suc n) less =
    omega (arith, count_true (take m bs), count_true (take n bs), count_more bs m n (omega (arith, less)))
count_more (false ∷ bs) (suc m) (suc n) less =
    omega (arith, count_false (take m bs), count_false (take n bs), count_more bs m n (omega (arith, less)))

-- a shown place has one more up to it than before it
pub count_here : (bs : List Bool) (m : ℕ) → slice_get bs m ≡ Some true → count_shown (take (suc m) bs) ≡ suc (count_shown (take m bs))
count_here [] m at = absurd cc
count_here (b ∷ bs) zero at = let is : b ≡ true = cc in ap (λ c. count_shown (c ∷ [])) is ∙ (count_true [] ∙ refl)
count_here (true ∷ bs) (suc m) at = count_true (take (suc m) bs) ∙ (ap suc (count_here bs m at) ∙ ap suc (sym (count_true (take m bs))))
count_here (false ∷ bs) (suc m) at = count_false (take (suc m) bs) ∙ (count_here bs m at ∙ ap suc (sym (count_false (take m bs))))
