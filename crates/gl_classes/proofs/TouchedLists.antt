-- Touched classes in key order, of which some were told.
use Rattle.std.proofs.Common.{◌≡◌, ◌∙◌, ℕ, zero, suc, ◌<◌, ◌≤◌, ◌==◌, Bool, true, false, List, [], ◌∷◌, length, refl, ap, sym, subst, arith, inl, inr}
use Rattle.std.specs.Prelude.{◌↔◌, Option, Some, None, slice_get, if◌then◌else◌}
use Rattle.std.proofs.lemmas.Bool.{cases_order, cases_eq, eqb-true, eq-eqb}
use Rattle.std.proofs.lemmas.Option.{slice_get_within}
use Rattle.spec_sorting.specs.Moves.{IsRising}
use Rattle.spec_sorting.proofs.SortedPositions.{In}
use Rattle.gl_classes.specs.declared.touched.Touched.{Touched}
use Rattle.gl_classes.specs.Sides.{if_at, next_at, alone}
use Rattle.gl_classes.proofs.BothSides.{some_same, cases_class}
use Rattle.gl_classes.proofs.FoundClasses.{class_list}

pub get_here : {X : Type 0} (us : List X) (m : ℕ) → m < length us → (u : X) × (slice_get us m ≡ Some u)
get_here [] m less = absurd (omega (arith, less))
get_here (u ∷ us) zero less = (u, refl)
get_here (u ∷ us) (suc m) less = get_here us m (omega (arith, less))

low_at : (low : ℕ) (ts : List Touched) (k : ℕ) (t : Touched) → IsRising low (class_list ts) → slice_get ts k ≡ Some t → low ≤ t.class
low_at low [] k t rise at = absurd cc
low_at low (u ∷ us) zero t rise at = let same : u ≡ t = cc in subst (λ (v : Touched). low ≤ v.class) same rise.0
low_at low (u ∷ us) (suc k) t rise at = let more = low_at (suc u.class) us k t rise.1 at in omega (arith, more, rise.0)

pub classes_rise : (low : ℕ) (ts : List Touched) (k l : ℕ) (t u : Touched) → IsRising low (class_list ts) → k < l → slice_get ts k ≡ Some t → slice_get ts l ≡ Some u → t.class < u.class
classes_rise low [] k l t u rise less at_k at_l = absurd cc
classes_rise low (v ∷ vs) zero zero t u rise less at_k at_l = absurd (omega (arith, less))
classes_rise low (v ∷ vs) zero (suc l) t u rise less at_k at_l =
    let same : v ≡ t = cc in
    let more = low_at (suc v.class) vs l u rise.1 at_l in
    subst (λ (w : Touched). w.class < u.class) same (omega (arith, more))
classes_rise low (v ∷ vs) (suc k) zero t u rise less at_k at_l = absurd (omega (arith, less))
classes_rise low (v ∷ vs) (suc k) (suc l) t u rise less at_k at_l = classes_rise (suc v.class) vs k l t u rise.1 (omega (arith, less)) at_k at_l

pub class_in : (ts : List Touched) (k : ℕ) (t : Touched) → slice_get ts k ≡ Some t → In t.class (class_list ts)
class_in [] k t at = absurd cc
class_in (u ∷ us) zero t at = let same : u ≡ t = cc in inl (ap (λ (v : Touched). v.class) (sym same))
class_in (u ∷ us) (suc k) t at = inr (class_in us k t at)

-- of these so many are of classes before one
abbrev pub AreToldTo : List Touched → ℕ → ℕ → Type 0
AreToldTo ts told class = (t : Touched) (k : ℕ) → slice_get ts k ≡ Some t → (k < told) ↔ (t.class < class)

module _ (ts : List Touched) (rise : IsRising 0 (class_list ts)) (told class : ℕ) (are : AreToldTo ts told class) where
  -- the next one isn't before that class
  pub next_ahead : (t : Touched) → slice_get ts told ≡ Some t → class ≤ t.class
  next_ahead t at = elim (cases_order t.class class) [
    | inl same ↦ omega (arith, same)
    | inr (inl less) ↦ absurd (let back = (are t told at).1 less in omega (arith, back))
    | inr (inr more) ↦ omega (arith, more)
  ]

  -- where it is after it, that class isn't touched
  pub is_free : ((t : Touched) → slice_get ts told ≡ Some t → class < t.class) → In class (class_list ts) → ⊥
  is_free far found = elim (cases_class class ts) [
    | inr none ↦ none found
    | inl f ↦ elim (cases_order f.0 told) [
      | inl same ↦ let past = far f.1 (ap (slice_get ts) (sym same) ∙ f.2) in omega (arith, past, f.3)
      | inr (inl less) ↦ let low = (are f.1 f.0 f.2).0 less in omega (arith, low, f.3)
      | inr (inr more) ↦
          let first = get_here ts told (let w = slice_get_within ts f.0 f.1 f.2 in omega (arith, w, more)) in
          let past = far first.0 first.1 in
          let up = classes_rise 0 ts told f.0 first.0 f.1 rise more first.1 f.2 in
          omega (arith, past, up, f.3)
    ]
  ]

  -- it was told
  pub told_touched : (t : Touched) → slice_get ts told ≡ Some t → t.class ≡ class → AreToldTo ts (suc told) (suc class)
  told_touched t at is u k at_k = elim (cases_order k told) [
    | inl same ↦
        let one : u ≡ t = some_same u t (sym at_k ∙ (ap (slice_get ts) same ∙ at)) in
        let class_is : u.class ≡ class = ap (λ (v : Touched). v.class) one ∙ is in
        ((λ less. omega (arith, class_is)), (λ less. omega (arith, same)))
    | inr (inl less) ↦
        let low = (are u k at_k).0 less in
        ((λ l. omega (arith, low)), (λ l. omega (arith, less)))
    | inr (inr more) ↦
        let up = classes_rise 0 ts told k t u rise more at at_k in
        ((λ l. absurd (omega (arith, l, more))), (λ l. absurd (omega (arith, l, up, is))))
  ]

  -- a class was passed that isn't touched
  pub told_free : (In class (class_list ts) → ⊥) → AreToldTo ts told (suc class)
  told_free free u k at_k =
      let old = are u k at_k in (
        (λ less. let low = old.0 less in omega (arith, low)),
        (λ less. elim (cases_eq u.class class) [
          | inl same ↦ absurd (free (subst (λ i. In i (class_list ts)) same (class_in ts k u at_k)))
          | inr other ↦ old.1 (omega (arith, less, other))
        ]),
      )

  some_none : (t : Touched) → Some t ≡ None → ⊥
  some_none t e = absurd cc

  is_here : (t : Touched) → slice_get ts told ≡ Some t → t.class ≡ class → next_at ts told class ≡ None → ⊥
  is_here t at same none =
      let e : if_at class (Some t) ≡ None = ap (if_at class) (sym at) ∙ none in
      let here : (t.class == class) ≡ true = eq-eqb t.class class same in
      absurd (some_none t (sym (ap (λ b. if b then Some t else None) here) ∙ e))

  -- where it isn't at hand, the class isn't touched
  pub next_free : next_at ts told class ≡ None → In class (class_list ts) → ⊥
  next_free none = is_free (λ t at. elim (cases_eq t.class class) [
    | inl same ↦ absurd (is_here t at same none)
    | inr other ↦ let low = next_ahead t at in omega (arith, low, other)
  ])

-- the next touched class is at hand
pub record IsNextAt (ts : List Touched) (told class : ℕ) (t : Touched) : Type 0 where
  pub at : slice_get ts told ≡ Some t
  pub is : t.class ≡ class

pub next_is : (ts : List Touched) (told class : ℕ) (t : Touched) → next_at ts told class ≡ Some t → IsNextAt ts told class t
next_is ts told class t e = by (slice_get ts told) refl
  where
    by : (q : Option Touched) → slice_get ts told ≡ q → IsNextAt ts told class t
    by None n = absurd (none_some (sym (ap (if_at class) n) ∙ e))
      where
        none_some : None ≡ Some t → ⊥
        none_some e = absurd cc
    by (Some u) n = here (u.class == class) refl
      where
        none_some : None ≡ Some t → ⊥
        none_some e = absurd cc

        here : (b : Bool) → (u.class == class) ≡ b → IsNextAt ts told class t
        here true is =
            let same : u ≡ t = some_same u t (sym (ap (λ c. if c then Some u else None) is) ∙ (sym (ap (if_at class) n) ∙ e)) in
            record { at = n ∙ ap Some same; is = ap (λ (v : Touched). v.class) (sym same) ∙ eqb-true u.class class is }
        here false is = absurd (none_some (sym (ap (λ c. if c then Some u else None) is) ∙ (sym (ap (if_at class) n) ∙ e)))

pub next_here : (ts : List Touched) (told class : ℕ) (t : Touched) → IsNextAt ts told class t → next_at ts told class ≡ Some t
next_here ts told class t h = ap (if_at class) h.at ∙ ap (λ c. if c then Some t else None) (eq-eqb t.class class h.is)

-- a touched class that the other list has none of the key of
pub record IsAlone (t : Touched) (source : ℕ) : Type 0 where
  pub goes : t.stays ≡ false
  pub source_is : t.source ≡ source

pub alone_is : (q : Option Touched) (n : ℕ) → alone q ≡ Some n → (t : Touched) × (q ≡ Some t) × IsAlone t n
alone_is None n e = absurd cc
alone_is (Some t) n e = by t.stays refl
  where
    none_some : None ≡ Some n → ⊥
    none_some e = absurd cc

    same_number : (m n : ℕ) → Some m ≡ Some n → m ≡ n
    same_number m n e = cc

    by : (b : Bool) → t.stays ≡ b → (u : Touched) × (Some t ≡ Some u) × IsAlone u n
    by true is = absurd (none_some (sym (ap (λ b. if b then None else Some t.source) is) ∙ e))
    by false is = (t, refl, record { goes = is; source_is = same_number t.source n (sym (ap (λ b. if b then None else Some t.source) is) ∙ e) })

pub stays_is : (t : Touched) → alone (Some t) ≡ None → t.stays ≡ true
stays_is t e = by t.stays refl
  where
    some_none : Some t.source ≡ None → ⊥
    some_none e = absurd cc

    by : (b : Bool) → t.stays ≡ b → t.stays ≡ true
    by true is = is
    by false is = absurd (some_none (sym (ap (λ b. if b then None else Some t.source) is) ∙ e))
