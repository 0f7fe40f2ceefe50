-- The sorted places of a class, and the classes of changed elements one after another.
use Rattle.std.proofs.Common.{◌≡◌, ◌≢◌, ◌∙◌, ℕ, zero, suc, ◌+◌, ◌-◌, ◌<◌, ◌≤◌, Bool, true, false, List, [], ◌∷◌, length, take, refl, ap, sym, subst, arith, inl, inr}
use Rattle.std.specs.Prelude.{Option, Some, None, slice_get}
use Rattle.std.proofs.lemmas.Bool.{cases_lt, cases_order, cases_eq, eq-eqb}
use Rattle.std.proofs.lemmas.Option.{slice_get_within}
use Rattle.spec_sorting.specs.Moves.{IsRising}
use Rattle.spec_sorting.proofs.SortedPositions.{In}
use Rattle.gl_barcode.specs.Bars.{count_shown, IsKthShown}
use Rattle.gl_arranged.specs.declared.changed.Ranked.{Ranked}
use Rattle.gl_classes.specs.declared.touched.Touched.{Touched}
use Rattle.gl_classes.specs.Touching.{class_of, places, AreChangedIn, IsRun, IsSpan, IsNext, IsPlain, IsTouched}
use Rattle.gl_classes.proofs.Positions.{count_more, count_here}

pub take_all : (bs : List Bool) (n : ℕ) → length bs ≤ n → take n bs ≡ bs
take_all [] zero h = refl
take_all [] (suc n) h = refl
take_all (b ∷ bs) zero h = absurd (omega (arith, h))
take_all (b ∷ bs) (suc n) h = ap (λ cs. b ∷ cs) (take_all bs n (omega (arith, h)))

-- where a class begins and the next one does, or the end
pub span_to_next : (bs : List Bool) (class start end : ℕ) → IsKthShown class bs start → IsKthShown (suc class) bs end → IsSpan bs class start end
span_to_next bs class start end one next = record {
  starts = elim (cases_lt start end) [
    | inl less ↦ less
    | inr more ↦ absurd (let low = count_more bs end start more in omega (arith, low, one.before, next.before))
  ];
  ends = let less = slice_get_within bs end true next.shown in omega (arith, less);
  inside = λ p from to.
      let low = count_more bs (suc start) (suc p) (omega (arith, from)) in
      let high = count_more bs (suc p) end (omega (arith, to)) in
      omega (arith, low, high, count_here bs start one.shown, one.before, next.before);
  before = λ p less. let low = count_more bs (suc p) start (omega (arith, less)) in omega (arith, low, one.before);
  after = λ p from within.
      let low = count_more bs (suc end) (suc p) (omega (arith, from)) in
      omega (arith, low, count_here bs end next.shown, next.before);
}

pub span_to_end : (bs : List Bool) (class start end : ℕ) → IsKthShown class bs start → end ≡ length bs → (suc class < count_shown bs → ⊥) → IsSpan bs class start end
span_to_end bs class start end one is none = record {
  starts = let less = slice_get_within bs start true one.shown in omega (arith, less, is);
  ends = omega (arith, is);
  inside = λ p from to.
      let low = count_more bs (suc start) (suc p) (omega (arith, from)) in
      let high = count_more bs (suc p) (length bs) (omega (arith, to, is)) in
      let all : count_shown (take (length bs) bs) ≡ count_shown bs = ap count_shown (take_all bs (length bs) (omega arith)) in
      let most : count_shown bs ≤ suc class = elim (cases_lt (suc class) (count_shown bs)) [
        | inl less ↦ absurd (none less)
        | inr more ↦ more
      ] in
      omega (arith, low, high, all, most, count_here bs start one.shown, one.before);
  before = λ p less. let low = count_more bs (suc p) start (omega (arith, less)) in omega (arith, low, one.before);
  after = λ p from within. absurd (omega (arith, from, within, is));
}

-- a place is in the span of its class
pub in_span : (bs : List Bool) (class start end place : ℕ) → IsSpan bs class start end → place < length bs → class_of bs place ≡ suc class → (start ≤ place) × (place < end)
in_span bs class start end place s within is = (
  elim (cases_lt place start) [
    | inl less ↦ absurd (let low = s.before place less in omega (arith, low, is))
    | inr more ↦ more
  ],
  elim (cases_lt place end) [
    | inl less ↦ less
    | inr more ↦ absurd (let high = s.after place more within in omega (arith, high, is))
  ],
)

get_at : (rs : List Ranked) (k : ℕ) (r : Ranked) → slice_get rs k ≡ Some r → slice_get (places rs) k ≡ Some r.place
get_at [] k r at = absurd cc
get_at (q ∷ qs) zero r at = let same : q ≡ r = cc in ap (λ (x : Ranked). Some x.place) same
get_at (q ∷ qs) (suc k) r at = get_at qs k r at

low_at : (low : ℕ) (is : List ℕ) (k i : ℕ) → IsRising low is → slice_get is k ≡ Some i → low + k ≤ i
low_at low [] k i rise at = absurd cc
low_at low (j ∷ js) zero i rise at = let same : j ≡ i = cc in omega (arith, same, rise.0)
low_at low (j ∷ js) (suc k) i rise at = let more = low_at (suc j) js k i rise.1 at in omega (arith, more, rise.0)

rising_at : (low : ℕ) (is : List ℕ) (k l i j : ℕ) → IsRising low is → k < l → slice_get is k ≡ Some i → slice_get is l ≡ Some j → i < j
rising_at low [] k l i j rise less at_k at_l = absurd cc
rising_at low (h ∷ hs) zero zero i j rise less at_k at_l = absurd (omega (arith, less))
rising_at low (h ∷ hs) zero (suc l) i j rise less at_k at_l =
    let same : h ≡ i = cc in
    let more = low_at (suc h) hs l j rise.1 at_l in
    omega (arith, more, same)
rising_at low (h ∷ hs) (suc k) zero i j rise less at_k at_l = absurd (omega (arith, less))
rising_at low (h ∷ hs) (suc k) (suc l) i j rise less at_k at_l = rising_at (suc h) hs k l i j rise.1 (omega (arith, less)) at_k at_l

-- changed elements stand at rising places
pub ranked_rise : (rs : List Ranked) (k l : ℕ) (q r : Ranked) → IsRising 0 (places rs) → k < l → slice_get rs k ≡ Some q → slice_get rs l ≡ Some r → q.place < r.place
ranked_rise rs k l q r rise less at_k at_l = rising_at 0 (places rs) k l q.place r.place rise less (get_at rs k q at_k) (get_at rs l r at_l)

pub in_index : (p : ℕ) (rs : List Ranked) → In p (places rs) → (k : ℕ) × (r : Ranked) × (slice_get rs k ≡ Some r) × (p ≡ r.place)
in_index p [] found = absurd found
in_index p (r ∷ rs) (inl same) = (0, r, refl, same)
in_index p (r ∷ rs) (inr later) = let more = in_index p rs later in (suc more.0, more.1, more.2, more.3)

pub index_in : (rs : List Ranked) (k : ℕ) (r : Ranked) → slice_get rs k ≡ Some r → In r.place (places rs)
index_in [] k r at = absurd cc
index_in (q ∷ qs) zero r at = let same : q ≡ r = cc in inl (ap (λ (x : Ranked). x.place) (sym same))
index_in (q ∷ qs) (suc k) r at = inr (index_in qs k r at)

some_same : {X : Type 0} (x y : X) → Some x ≡ Some y → x ≡ y
some_same x y e = cc

-- Where the changed elements before one at an index are of earlier classes, the next class is a touched one.
pub next_is_touched : (bs : List Bool) (ranked : List Ranked) (at next : ℕ) (t : Touched) → AreChangedIn bs ranked → IsNext bs ranked at t next
    → ((k : ℕ) (r : Ranked) → k < at → slice_get ranked k ≡ Some r → class_of bs r.place ≤ t.class) → IsTouched bs ranked t
next_is_touched bs ranked at next t changed n earlier = record {
  one = n.one;
  index = at;
  here = n.here;
  source_is = n.source_is;
  class_is = n.span.inside n.one.place n.from n.below;
  start = n.start;
  start_low = n.from;
  start_class = n.span.inside n.start (omega arith) n.span.starts;
  start_first = n.span.before;
  first_is = n.first_is;
  start_plain = λ e found.
      let f = in_index n.start ranked found in
      elim (cases_order f.0 at) [
        | inl same ↦
            let r_is : f.1 ≡ n.one = some_same f.1 n.one (sym f.2 ∙ (ap (slice_get ranked) same ∙ n.here)) in
            let equal : n.start ≡ n.one.place = f.3 ∙ ap (λ (x : Ranked). x.place) r_is in
            absurd (true_false (sym (eq-eqb n.start n.one.place equal) ∙ (sym n.first_is ∙ e)))
        | inr (inl less) ↦ absurd (let low = earlier f.0 f.1 less f.2 in omega (arith, low, ap (class_of bs) (sym f.3), n.span.inside n.start (omega arith) n.span.starts))
        | inr (inr more) ↦ absurd (let lower = ranked_rise ranked at f.0 n.one f.1 changed.rise more n.here f.2 in omega (arith, lower, f.3, n.from))
      ];
  plain_is = plain_found t.plain n.plain_is;
  stays_is = n.stays_is;
}
  where
    true_false : true ≡ false → ⊥
    true_false e = absurd cc

    plain_found : (q : Option ℕ) → IsRun ranked at n.start n.end q → IsPlain bs (places ranked) t.class q
    plain_found None runs =
        λ p within is.
        let s = in_span bs t.class n.start n.end p n.span within is in
        let r = runs (p - n.start) (omega (arith, s.0, s.1)) in
        let p_is : r.0.place ≡ p = r.2 ∙ omega (arith, s.0) in
        subst (λ k. In k (places ranked)) p_is (index_in ranked (at + (p - n.start)) r.0 r.1)
    plain_found (Some q) s =
        let within = s.within in
        let low : n.start ≤ q = omega (arith, s.place_is) in (
          omega (arith, within, n.span.ends),
          n.span.inside q low s.within,
          (λ found.
              let f = in_index q ranked found in
              elim (cases_lt f.0 (at + s.run)) [
                | inl less ↦
                    elim (cases_lt f.0 at) [
                      | inl before ↦ absurd (let lower = earlier f.0 f.1 before f.2 in omega (arith, lower, ap (class_of bs) (sym f.3), n.span.inside q low s.within))
                      | inr from ↦
                          let r = s.runs (f.0 - at) (omega (arith, less, from)) in
                          let k_is : at + (f.0 - at) ≡ f.0 = omega (arith, from) in
                          let r_is : r.0 ≡ f.1 = some_same r.0 f.1 (sym r.1 ∙ (ap (slice_get ranked) k_is ∙ f.2)) in
                          absurd (omega (arith, r.2, ap (λ (x : Ranked). x.place) r_is, f.3, s.place_is, less, from))
                    ]
                | inr more ↦ past f.0 f.1 more f.2 f.3
              ]),
          (λ p is lower.
              let from = in_span bs t.class n.start n.end p n.span (omega (arith, lower, within, n.span.ends)) is in
              let r = s.runs (p - n.start) (omega (arith, from.0, lower, s.place_is)) in
              let p_is : r.0.place ≡ p = r.2 ∙ omega (arith, from.0) in
              subst (λ k. In k (places ranked)) p_is (index_in ranked (at + (p - n.start)) r.0 r.1)),
        )
      where
        past : (k : ℕ) (r : Ranked) → at + s.run ≤ k → slice_get ranked k ≡ Some r → q ≡ r.place → ⊥
        past k r from here is =
            elim (cases_eq k (at + s.run)) [
              | inl same ↦ s.other r (ap (slice_get ranked) (sym same) ∙ here) (sym is)
              | inr other ↦
                  let end = get_there (at + s.run) k r (omega (arith, from, other)) here in
                  let lower = ranked_rise ranked (at + s.run) k end.0 r changed.rise (omega (arith, from, other)) end.1 here in
                  let not_here = s.other end.0 end.1 in
                  reach end.0 end.1 lower not_here
            ]
          where
            get_there : (m k : ℕ) (r : Ranked) → m < k → slice_get ranked k ≡ Some r → (u : Ranked) × (slice_get ranked m ≡ Some u)
            get_there m k r less at_k = get_within ranked m (let w = slice_get_within ranked k r at_k in omega (arith, w, less))
              where
                get_within : (us : List Ranked) (m : ℕ) → m < length us → (u : Ranked) × (slice_get us m ≡ Some u)
                get_within [] m less = absurd (omega (arith, less))
                get_within (u ∷ us) zero less = (u, refl)
                get_within (u ∷ us) (suc m) less = get_within us m (omega (arith, less))

            -- what is at the end of the run stands after it
            reach : (u : Ranked) → slice_get ranked (at + s.run) ≡ Some u → u.place < r.place → u.place ≢ q → ⊥
            reach u at_u lower ne = elim (cases_eq s.run 0) [
              | inl none ↦
                  let e : at + s.run ≡ at = omega (arith, none) in
                  let u_is : u ≡ n.one = some_same u n.one (sym at_u ∙ (ap (slice_get ranked) e ∙ n.here)) in
                  omega (arith, ap (λ (x : Ranked). x.place) u_is, n.from, s.place_is, none, lower, is)
              | inr some ↦
                  let last = s.runs (s.run - 1) (omega (arith, some)) in
                  let step = ranked_rise ranked (at + (s.run - 1)) (at + s.run) last.0 u changed.rise (omega (arith, some)) last.1 at_u in
                  omega (arith, step, last.2, s.place_is, some, lower, is)
            ]
