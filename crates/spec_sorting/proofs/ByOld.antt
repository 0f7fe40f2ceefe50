-- Pairs put in the order of their old places.
use Rattle.std.proofs.Common.{◌≡◌, ◌≢◌, ◌⊎◌, ◌∙◌, ℕ, zero, suc, ◌+◌, ◌<◌, ◌≤◌, ◌==◌, Bool, true, false, List, [], ◌∷◌, ◌++◌, map, filter, flat_map, refl, ap, sym, subst, arith, inl, inr}
use Rattle.std.specs.List.{range_with_len, AllByRecursion as Each}
use Rattle.std.proofs.lemmas.Bool.{cases_eq, eq-eqb, ne_eqb}
use Rattle.spec_lists.specs.Pairs.{Pair, IsIncreasing}
use Rattle.spec_views.specs.Sorted.{by_old_position}
use Rattle.spec_sorting.specs.Moves.{IsRising}
use Rattle.spec_sorting.proofs.Partners.{each_weaker, each_both, each_filter}

each_append : {X : Type 0} (P : X → Type 0) (us vs : List X) → Each P us → Each P vs → Each P (us ++ vs)
each_append P [] vs e f = f
each_append P (u ∷ us) vs e f = (e.0, each_append P us vs e.1 f)

each_prefix : {X : Type 0} (P : X → Type 0) (us vs : List X) → Each P (us ++ vs) → Each P us
each_prefix P [] vs e = tt
each_prefix P (u ∷ us) vs e = (e.0, each_prefix P us vs e.1)

each_back : {X : Type 0} (P : X → Type 0) (us vs : List X) → Each P (us ++ vs) → Each P vs
each_back P [] vs e = e
each_back P (u ∷ us) vs e = each_back P us vs e.1

-- those at one old place, and those at so many, from this one on
abbrev at_position : List Pair → ℕ → List Pair
at_position ps k = filter (λ p. p.old == k) ps

abbrev from_position : ℕ → ℕ → List Pair → List Pair
from_position a m ps = flat_map (at_position ps) (range_with_len a m)

one_more : (a m : ℕ) (ps : List Pair) → from_position a (suc m) ps ≡ at_position ps a ++ from_position (suc a) m ps
one_more a m ps = let next : a + 1 ≡ suc a = omega arith in ap (λ b. at_position ps a ++ flat_map (at_position ps) (range_with_len b m)) next

each_from_position : (P : Pair → Type 0) (a m : ℕ) (ps : List Pair) → Each P ps → Each P (from_position a m ps)
each_from_position P a zero ps e = tt
each_from_position P a (suc m) ps e =
    subst (Each P) (sym (one_more a m ps)) (each_append P (at_position ps a) (from_position (suc a) m ps)
    (each_weaker (λ p. P p × (p.old == a ≡ true)) P (λ p h. h.0) (at_position ps a) (each_filter P (λ p. p.old == a) ps e)) (each_from_position P (suc a) m ps e))

-- all of them are there
pub each_by_old : (P : Pair → Type 0) (n : ℕ) (ps : List Pair) → Each P ps → Each P (by_old_position n ps)
each_by_old P n ps e = each_from_position P 0 n ps e

at_each : (P : Pair → Type 0) (a m : ℕ) (ps : List Pair) → Each P (from_position a m ps) → (k : ℕ) → a ≤ k → k < a + m → Each P (at_position ps k)
at_each P a zero ps e k low high = absurd (omega (arith, low, high))
at_each P a (suc m) ps e k low high =
    let all : Each P (at_position ps a ++ from_position (suc a) m ps) = subst (Each P) (one_more a m ps) e in
    elim (cases_eq a k) [
      | inl same ↦ subst (λ b. Each P (at_position ps b)) same (each_prefix P (at_position ps a) (from_position (suc a) m ps) all)
      | inr other ↦ at_each P (suc a) m ps (each_back P (at_position ps a) (from_position (suc a) m ps) all) k (omega (arith, low, other)) (omega (arith, high))
    ]

collected : (P : Pair → Type 0) (n : ℕ) (ps : List Pair) → ((k : ℕ) → k < n → Each P (at_position ps k)) → Each (λ p. p.old < n) ps → Each P ps
collected P n [] all low = tt
collected P n (p ∷ ps) all low = (
  here (all p.old low.0),
  collected P n ps (λ k less. later k (all k less)) low.1,
)
  where
    here : Each P (at_position (p ∷ ps) p.old) → P p
    here e = (subst (Each P) (ap_first (eq-eqb p.old p.old refl)) e).0
      where
        ap_first : (p.old == p.old) ≡ true → at_position (p ∷ ps) p.old ≡ p ∷ at_position ps p.old
        ap_first is = rw is refl

    later : (k : ℕ) → Each P (at_position (p ∷ ps) k) → Each P (at_position ps k)
    later k e = elim (cases_eq p.old k) [
      | inl same ↦ let is : at_position (p ∷ ps) k ≡ p ∷ at_position ps k = rw (eq-eqb p.old k same) refl in (subst (Each P) is e).1
      | inr other ↦ let is : at_position (p ∷ ps) k ≡ at_position ps k = rw (ne_eqb p.old k other) refl in subst (Each P) is e
    ]

pub each_from_by_old : (P : Pair → Type 0) (n : ℕ) (ps : List Pair) → Each (λ p. p.old < n) ps → Each P (by_old_position n ps) → Each P ps
each_from_by_old P n ps low e = collected P n ps (λ k less. at_each P 0 n ps e k (omega arith) (omega (arith, less))) low

-- no two of them have one old place
abbrev pub Apart : List Pair → Type 0
Apart [] = Unit {0}
Apart (p ∷ ps) = Each (λ q. p.old ≢ q.old) ps × Apart ps

none_there : (k : ℕ) (ps : List Pair) → Each (λ q. k ≢ q.old) ps → at_position ps k ≡ []
none_there k [] e = refl
none_there k (p ∷ ps) e = rw (ne_eqb p.old k (λ same. e.0 (sym same))) (none_there k ps e.1)

one_there : (k : ℕ) (ps : List Pair) → Apart ps → (at_position ps k ≡ []) ⊎ ((p : Pair) × (at_position ps k ≡ p ∷ []) × (p.old ≡ k))
one_there k [] apart = inl refl
one_there k (p ∷ ps) apart = elim (cases_eq p.old k) [
  | inl same ↦
      let none : at_position ps k ≡ [] = none_there k ps (subst (λ j. Each (λ q. j ≢ q.old) ps) same apart.0) in
      let is : at_position (p ∷ ps) k ≡ p ∷ at_position ps k = rw (eq-eqb p.old k same) refl in
      inr (p, is ∙ ap (λ us. p ∷ us) none, same)
  | inr other ↦ rw (ne_eqb p.old k other) (one_there k ps apart.1)
]

rising_lower : (a b : ℕ) (is : List ℕ) → a ≤ b → IsRising b is → IsRising a is
rising_lower a b [] less rise = tt
rising_lower a b (i ∷ is) less rise = (omega (arith, less, rise.0), rise.1)

rising_from : (a m : ℕ) (ps : List Pair) → Apart ps → IsRising a (map (λ p. p.old) (from_position a m ps))
rising_from a zero ps apart = tt
rising_from a (suc m) ps apart =
    subst (λ us. IsRising a (map (λ p. p.old) us)) (sym (one_more a m ps)) (by (one_there a ps apart) (rising_from (suc a) m ps apart))
  where
    by : (at_position ps a ≡ []) ⊎ ((p : Pair) × (at_position ps a ≡ p ∷ []) × (p.old ≡ a)) → IsRising (suc a) (map (λ p. p.old) (from_position (suc a) m ps))
        → IsRising a (map (λ p. p.old) (at_position ps a ++ from_position (suc a) m ps))
    by (inl none) rest =
        subst (λ us. IsRising a (map (λ p. p.old) (us ++ from_position (suc a) m ps))) (sym none)
        (rising_lower a (suc a) (map (λ p. p.old) (from_position (suc a) m ps)) (omega arith) rest)
    by (inr one) rest =
        let here : a ≤ one.0.old = omega (arith, one.2) in
        subst (λ us. IsRising a (map (λ p. p.old) (us ++ from_position (suc a) m ps))) (sym one.1)
        (here, subst (λ k. IsRising (suc k) (map (λ p. p.old) (from_position (suc a) m ps))) (sym one.2) rest)

pub rising_by_old : (n : ℕ) (ps : List Pair) → Apart ps → IsRising 0 (map (λ p. p.old) (by_old_position n ps))
rising_by_old n ps apart = rising_from 0 n ps apart

-- of two of them that the earlier old place has the earlier new place
abbrev pub AreFollowing : Pair → Pair → Type 0
AreFollowing p q = p.old < q.old → p.new < q.new

pub increasing_from : (i j : ℕ) (ps : List Pair) → IsRising i (map (λ p. p.old) ps) → Each (λ p. j ≤ p.new) ps
    → Each (λ p. Each (AreFollowing p) ps) ps → IsIncreasing i j ps
increasing_from i j [] rise low follow = tt
increasing_from i j (p ∷ ps) rise low follow = (
  rise.0,
  low.0,
  increasing_from (suc p.old) (suc p.new) ps rise.1
      (each_both (AreFollowing p) (λ q. suc p.old ≤ q.old) (λ q. suc p.new ≤ q.new) (λ q to more. to more) ps follow.0.1 (old_from (suc p.old) ps rise.1))
      (each_weaker _ _ (λ q h. h.1) ps follow.1),
)
  where
    old_from : (k : ℕ) (qs : List Pair) → IsRising k (map (λ q. q.old) qs) → Each (λ q. k ≤ q.old) qs
    old_from k [] up = tt
    old_from k (q ∷ qs) up = (up.0, each_weaker _ _ (λ u h. omega (arith, h, up.0)) qs (old_from (suc q.old) qs up.1))

pub apart_rising : (i j : ℕ) (ps : List Pair) → IsIncreasing i j ps → Each (λ p. i ≤ p.old) ps × Apart ps
apart_rising i j [] rise = (tt, tt)
apart_rising i j (p ∷ ps) rise =
    let rest = apart_rising (suc p.old) (suc p.new) ps rise.2 in (
      (rise.0, each_weaker _ _ (λ q h. omega (arith, h, rise.0)) ps rest.0),
      (each_weaker _ _ (λ q h e. omega (arith, h, e)) ps rest.0, rest.1),
    )

pub apart_filter : (test : Pair → Bool) (ps : List Pair) → Apart ps → Apart (filter test ps)
apart_filter test [] apart = tt
apart_filter test (p ∷ ps) apart =
    by (test p) (each_weaker _ _ (λ q h. h.0) (filter test ps) (each_filter (λ q. p.old ≢ q.old) test ps apart.0)) (apart_filter test ps apart.1) refl
  where
    by : (t : Bool) → Each (λ q. p.old ≢ q.old) (filter test ps) → Apart (filter test ps) → test p ≡ t → Apart (filter test (p ∷ ps))
    by true e f is = let same : filter test (p ∷ ps) ≡ p ∷ filter test ps = rw is refl in subst Apart (sym same) (e, f)
    by false e f is = let same : filter test (p ∷ ps) ≡ filter test ps = rw is refl in subst Apart (sym same) f

-- the pairs between other places, which are one only where the old ones are
pub apart_map : (f : Pair → Pair) (P : Pair → Type 0) → ((p q : Pair) → P p → P q → (f p).old ≡ (f q).old → p.old ≡ q.old) → (ps : List Pair)
    → Each P ps → Apart ps → Apart (map f ps)
apart_map f P once [] e apart = tt
apart_map f P once (p ∷ ps) e apart = (
  moved ps (each_both P (λ q. p.old ≢ q.old) (λ q. (f p).old ≢ (f q).old) (λ q h ne same. ne (once p q e.0 h same)) ps e.1 apart.0),
  apart_map f P once ps e.1 apart.1,
)
  where
    moved : (qs : List Pair) → Each (λ q. (f p).old ≢ (f q).old) qs → Each (λ q. (f p).old ≢ q.old) (map f qs)
    moved [] h = tt
    moved (q ∷ qs) h = (h.0, moved qs h.1)
