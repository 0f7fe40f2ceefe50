-- The touched classes that were found so far, of the changed elements before one at an index.
use Rattle.std.proofs.Common.{◌≡◌, ◌∙◌, ℕ, zero, suc, ◌-◌, ◌<◌, ◌≤◌, ◌++◌, Bool, List, [], ◌∷◌, length, map, refl, ap, sym, subst, arith, inl, inr}
use Rattle.std.specs.Prelude.{Some, slice_get}
use Rattle.std.specs.List.{AllByRecursion as Each}
use Rattle.std.proofs.lemmas.Bool.{cases_lt, cases_eq}
use Rattle.std.proofs.lemmas.List.{map-append}
use Rattle.std.proofs.lemmas.Option.{slice_get_within}
use Rattle.spec_sorting.specs.Moves.{IsRising}
use Rattle.spec_sorting.proofs.SortedPositions.{In}
use Rattle.spec_sorting.proofs.Partners.{each_weaker}
use Rattle.gl_arranged.specs.declared.changed.Ranked.{Ranked}
use Rattle.gl_classes.specs.declared.touched.Touched.{Touched}
use Rattle.gl_classes.specs.Touching.{class_of, AreChangedIn, IsNext, IsTouched, AreTouched}
use Rattle.gl_classes.proofs.Spans.{ranked_rise, in_index, next_is_touched}

abbrev pub class_list : List Touched → List ℕ
class_list ts = map (λ (t : Touched). t.class) ts

-- the changed elements from one at an index on are of later classes
abbrev pub IsLater : List Bool → List Ranked → ℕ → Touched → Type 0
IsLater bs ranked at t = (k : ℕ) (r : Ranked) → at ≤ k → slice_get ranked k ≡ Some r → suc t.class < class_of bs r.place

-- so far
pub record AreFound (bs : List Bool) (ranked : List Ranked) (at : ℕ) (out : List Touched) : Type 0 where
  pub within : at ≤ length ranked
  pub each : Each (IsTouched bs ranked) out
  pub rise : IsRising 0 (class_list out)
  pub few : length out ≤ at
  pub all : (k c : ℕ) (r : Ranked) → k < at → slice_get ranked k ≡ Some r → class_of bs r.place ≡ suc c → In c (class_list out)
  pub later : Each (IsLater bs ranked at) out

pub none_found : (bs : List Bool) (ranked : List Ranked) → AreFound bs ranked 0 []
none_found bs ranked = record {
  within = omega arith;
  each = tt;
  rise = tt;
  few = omega arith;
  all = λ k c r less. absurd (omega (arith, less));
  later = tt;
}

each_append : {X : Type 0} (P : X → Type 0) (xs : List X) (x : X) → Each P xs → P x → Each P (xs ++ x ∷ [])
each_append P [] x e h = (h, tt)
each_append P (y ∷ ys) x e h = (e.0, each_append P ys x e.1 h)

in_append : (i j : ℕ) (is : List ℕ) → In i is → In i (is ++ j ∷ [])
in_append i j [] found = absurd found
in_append i j (k ∷ ks) (inl same) = inl same
in_append i j (k ∷ ks) (inr later) = inr (in_append i j ks later)

in_last : (j : ℕ) (is : List ℕ) → In j (is ++ j ∷ [])
in_last j [] = inl refl
in_last j (i ∷ is) = inr (in_last j is)

rise_append : (low n : ℕ) (is : List ℕ) → IsRising low is → low ≤ n → ((i : ℕ) → In i is → i < n) → IsRising low (is ++ n ∷ [])
rise_append low n [] rise from below = (from, tt)
rise_append low n (i ∷ is) rise from below = (rise.0, rise_append (suc i) n is rise.1 (let less = below i (inl refl) in omega (arith, less)) (λ j found. below j (inr found)))

in_each : (P : ℕ → Type 0) (ts : List Touched) → Each (λ (t : Touched). P t.class) ts → (i : ℕ) → In i (class_list ts) → P i
in_each P [] e i found = absurd found
in_each P (t ∷ ts) e i (inl same) = subst P (sym same) e.0
in_each P (t ∷ ts) e i (inr later) = in_each P ts e.1 i later

pub each_low : (bs : List Bool) (ranked : List Ranked) → Each (λ r. r.place < length bs) ranked → (k : ℕ) (r : Ranked) → slice_get ranked k ≡ Some r → r.place < length bs
each_low bs [] e k r at = absurd cc
each_low bs (q ∷ qs) e zero r at = let same : q ≡ r = cc in subst (λ (u : Ranked). u.place < length bs) same e.0
each_low bs (q ∷ qs) e (suc k) r at = each_low bs qs e.1 k r at

get_here : (us : List Ranked) (m : ℕ) → m < length us → (u : Ranked) × (slice_get us m ≡ Some u)
get_here [] m less = absurd (omega (arith, less))
get_here (u ∷ us) zero less = (u, refl)
get_here (u ∷ us) (suc m) less = get_here us m (omega (arith, less))

some_same : {X : Type 0} (x y : X) → Some x ≡ Some y → x ≡ y
some_same x y e = cc

-- one class more
pub found_more : (bs : List Bool) (ranked : List Ranked) (at next : ℕ) (out ts : List Touched) (t : Touched) → AreChangedIn bs ranked
    → AreFound bs ranked at out → IsNext bs ranked at t next → ts ≡ out ++ t ∷ [] → AreFound bs ranked next ts
found_more bs ranked at next out ts t changed f n are =
    let is_class : class_of bs n.one.place ≡ suc t.class = n.span.inside n.one.place n.from n.below in
    let lower : Each (λ (u : Touched). u.class < t.class) out =
    each_weaker (IsLater bs ranked at) (λ (u : Touched). u.class < t.class) (λ u h. let less = h at n.one (omega arith) n.here in omega (arith, less, is_class)) out f.later in
    let earlier : (k : ℕ) (r : Ranked) → k < at → slice_get ranked k ≡ Some r → class_of bs r.place ≤ t.class =
    λ k r less here.
    let some = changed.begins r.place (each_low bs ranked changed.low k r here) in
    let c : ℕ = class_of bs r.place - 1 in
    let number : class_of bs r.place ≡ suc c = omega (arith, some) in
    let below : c < t.class = in_each (λ i. i < t.class) out lower c (f.all k c r less here number) in
    omega (arith, below, number) in
    let further : at < next = elim (cases_lt at next) [
      | inl less ↦ less
      | inr more ↦
          let same : at ≡ next = omega (arith, more, n.next_is.onward) in
          absurd (let past = n.next_is.after n.one (ap (slice_get ranked) (sym same) ∙ n.here) in omega (arith, past, n.below))
    ] in
    rw are (record {
      within = n.next_is.within;
      each = each_append (IsTouched bs ranked) out t f.each (next_is_touched bs ranked at next t changed n earlier);
      rise = subst (IsRising 0) (sym (map-append (λ (u : Touched). u.class) out (t ∷ [])))
          (rise_append 0 t.class (class_list out) f.rise (omega arith) (in_each (λ i. i < t.class) out lower));
      few = omega (arith, f.few, further, length-last out t);
      all = λ k c r less here number. subst (In c) (sym (map-append (λ (u : Touched). u.class) out (t ∷ [])))
          (elim (cases_lt k at) [
            | inl before ↦ in_append c t.class (class_list out) (f.all k c r before here number)
            | inr from ↦
                let below = n.next_is.before k r from less here in
                let high : n.one.place ≤ r.place = elim (cases_eq at k) [
                  | inl same ↦ omega (arith, ap (λ (u : Ranked). u.place) (some_same n.one r (sym n.here ∙ (ap (slice_get ranked) same ∙ here))))
                  | inr other ↦ let up = ranked_rise ranked at k n.one r changed.rise (omega (arith, from, other)) n.here here in omega (arith, up)
                ] in
                let own = n.span.inside r.place (omega (arith, n.from, high)) below in
                let same : c ≡ t.class = omega (arith, own, number) in
                subst (λ i. In i (class_list out ++ t.class ∷ [])) (sym same) (in_last t.class (class_list out))
          ]);
      later = each_append (IsLater bs ranked next) out t
          (each_weaker (IsLater bs ranked at) (IsLater bs ranked next) (λ u h k r from here. h k r (omega (arith, from, further)) here) out f.later)
          (λ k r from here. n.span.after r.place (past k r from here) (each_low bs ranked changed.low k r here));
    })
  where
    length-last : (us : List Touched) (u : Touched) → length (us ++ u ∷ []) ≡ suc (length us)
    length-last [] u = refl
    length-last (v ∷ vs) u = ap suc (length-last vs u)

    past : (k : ℕ) (r : Ranked) → next ≤ k → slice_get ranked k ≡ Some r → n.end ≤ r.place
    past k r from here = elim (cases_eq next k) [
      | inl same ↦ n.next_is.after r (ap (slice_get ranked) same ∙ here)
      | inr other ↦
          let first = get_here ranked next (let w = slice_get_within ranked k r here in omega (arith, w, from)) in
          let low = n.next_is.after first.0 first.1 in
          let up = ranked_rise ranked next k first.0 r changed.rise (omega (arith, from, other)) first.1 here in
          omega (arith, low, up)
    ]

-- all of them
pub all_found : (bs : List Bool) (ranked : List Ranked) (at : ℕ) (out : List Touched) → length ranked ≤ at → AreFound bs ranked at out → AreTouched bs ranked out
all_found bs ranked at out end f = record {
  rise = f.rise;
  few = let found = f.few in omega (arith, found, f.within);
  each = f.each;
  all = λ p c found number.
      let r = in_index p ranked found in
      f.all r.0 c r.1 (let w = slice_get_within ranked r.0 r.1 r.2 in omega (arith, w, end)) r.2 (ap (class_of bs) (sym r.3) ∙ number);
}
