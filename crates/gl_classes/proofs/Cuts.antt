-- Where the classes of a list begin and end in its sorted order.
use Rattle.std.proofs.Common.{◌≡◌, ◌∙◌, ℕ, zero, suc, ◌+◌, ◌-◌, ◌<◌, ◌≤◌, ◌++◌, Bool, true, false, List, [], ◌∷◌, length, map, take, drop, refl, ap, sym, subst, arith}
use Rattle.std.specs.Prelude.{Some, slice_get}
use Rattle.std.specs.List.{AllByRecursion as Each}
use Rattle.std.proofs.lemmas.List.{length-append}
use Rattle.spec_sorting.specs.Tree.{Tree}
use Rattle.spec_sorting.specs.Arrangement.{Comparison}
use Rattle.spec_classes.specs.Classes.{Class}
use Rattle.spec_classes.specs.Members.{joined, firsts, IsClass}
use Rattle.gl_barcode.specs.Bars.{count_shown, IsKthShown}
use Rattle.gl_classes.specs.Spanned.{IsSpanOf}
use Rattle.gl_classes.proofs.Positions.{count_true, count_false, count_none}

-- how many members the first classes have
abbrev pub members_of : List Class → ℕ → ℕ
members_of cs n = length (joined (take n cs))

take_front : (is js : List ℕ) → take (length is) (is ++ js) ≡ is
take_front [] js = refl
take_front (i ∷ is) js = ap (λ ks. i ∷ ks) (take_front is js)

drop_front : (is js : List ℕ) (n : ℕ) → drop (length is + n) (is ++ js) ≡ drop n js
drop_front [] js n = let e : 0 + n ≡ n = omega arith in ap (λ k. drop k js) e
drop_front (i ∷ is) js n = let e : suc (length is) + n ≡ suc (length is + n) = omega arith in ap (λ k. drop k (i ∷ is ++ js)) e ∙ drop_front is js n

-- a first member is after the others of a class
past_others : (gs : List ℕ) (bs : List Bool) (k q : ℕ) → slice_get (map (λ j. false) gs ++ bs) q ≡ Some true → count_shown (take q (map (λ j. false) gs ++ bs)) ≡ k
    → (p : ℕ) × IsKthShown k bs p × (q ≡ length gs + p)
past_others [] bs k q at counted = (q, record { shown = at; before = counted }, omega arith)
past_others (g ∷ gs) bs k zero at counted = absurd (let e : Some false ≡ Some true = at in cc)
past_others (g ∷ gs) bs k (suc q) at counted =
    let more = past_others gs bs k q at (sym (count_false (take q (map (λ j. false) gs ++ bs))) ∙ counted) in
    (more.0, more.1, omega (arith, more.2))

module _ (compare : Comparison) (xs : List Tree) where
  pub start_is : (cs : List Class) → Each (IsClass compare xs) cs → (k p : ℕ) → IsKthShown k (firsts cs) p → p ≡ members_of cs k
  start_is [] each k p h = absurd (let e = h.shown in cc)
  start_is ([] ∷ cs) each k p h = absurd (let e = each.0.are in cc)
  start_is ((f ∷ fs) ∷ cs) each zero zero h = refl
  start_is ((f ∷ fs) ∷ cs) each zero (suc q) h = absurd (omega (arith, h.before, count_true (take q (map (λ j. false) fs ++ firsts cs))))
  start_is ((f ∷ fs) ∷ cs) each (suc k) zero h = absurd (omega (arith, h.before, count_none))
  start_is ((f ∷ fs) ∷ cs) each (suc k) (suc q) h =
      let counted = count_true (take q (map (λ j. false) fs ++ firsts cs)) in
      let p = past_others fs (firsts cs) k q h.shown (omega (arith, counted, h.before)) in
      omega (arith, p.2, start_is cs each.1 k p.0 p.1, length-append fs (joined (take k cs)))

-- a class among those before it and after it
pub record IsCut (cs : List Class) (k : ℕ) : Type 0 where
  pub class : Class
  pub at : slice_get cs k ≡ Some class
  pub next : members_of cs (suc k) ≡ members_of cs k + length class
  pub members : take (length class) (drop (members_of cs k) (joined cs)) ≡ class

pub cut_at : (cs : List Class) (k : ℕ) → k < length cs → IsCut cs k
cut_at [] k less = absurd (omega (arith, less))
cut_at (c ∷ cs) zero less = record {
  class = c;
  at = refl;
  next = omega (arith, length-append c []);
  members = take_front c (joined cs);
}
cut_at (c ∷ cs) (suc k) less =
    let more = cut_at cs k (omega (arith, less)) in
    record {
      class = more.class;
      at = more.at;
      next = omega (arith, more.next, length-append c (joined (take (suc k) cs)), length-append c (joined (take k cs)));
      members = ap (λ n. take (length more.class) (drop n (c ++ joined cs))) (length-append c (joined (take k cs)))
          ∙ (ap (take (length more.class)) (drop_front c (joined cs) (members_of cs k)) ∙ more.members);
    }

pub members_most : (cs : List Class) (n : ℕ) → members_of cs n ≤ length (joined cs)
members_most cs zero = omega arith
members_most [] (suc n) = omega arith
members_most (c ∷ cs) (suc n) = omega (arith, members_most cs n, length-append c (joined (take n cs)), length-append c (joined cs))

pub members_all : (cs : List Class) (n : ℕ) → length cs ≤ n → members_of cs n ≡ length (joined cs)
members_all [] zero all = refl
members_all [] (suc n) all = refl
members_all (c ∷ cs) zero all = absurd (omega (arith, all))
members_all (c ∷ cs) (suc n) all = omega (arith, members_all cs n (omega (arith, all)), length-append c (joined (take n cs)), length-append c (joined cs))

-- so the members of a class stand from where it begins to where the next one does
pub span_is : (cs : List Class) (class : ℕ) (places : List ℕ) (start end : ℕ) → places ≡ joined cs → class < length cs → start ≡ members_of cs class → end ≡ members_of cs (suc class) → IsSpanOf cs class places start end
span_is cs class places start end are less from to =
    let c = cut_at cs class less in
    let long : end - start ≡ length c.class = omega (arith, from, to, c.next) in
    record {
      starts = omega (arith, from, to, c.next);
      ends = omega (arith, to, members_most cs (suc class), ap length are);
      members = c.at ∙ sym (ap (λ n. Some (take n (drop start places))) long
          ∙ (ap (λ n. Some (take (length c.class) (drop n places))) from ∙ (ap (λ is. Some (take (length c.class) (drop (members_of cs class) is))) are ∙ ap Some c.members)));
    }
