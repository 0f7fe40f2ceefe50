-- The search by levels.
use Rattle.std.proofs.Common.{◌≡◌, ℕ, suc, ◌+◌, ◌<◌, ◌≤◌, ◌⊎◌, inl, inr, ◌==◌, true, cond, List, [], ◌∷◌, ◌++◌, Option, Some, length, take, map, filter, sym, ap, ◌∙◌, subst, arith}
use Rattle.std.specs.Prelude.{Contains, slice_index}
use Rattle.std.proofs.lemmas.Bool.{cases_lt, cases_Bool, eqb-true, eq-eqb}
use Rattle.std.proofs.lemmas.List.{take_more}
use Rattle.std.proofs.lemmas.List.Elements.{Contains-append_left, Contains-push, Contains-push_cases}
use Rattle.spec_order.proofs.Members.{Contains-cons_cases, Contains-here, Contains-later, Contains-nil}
use Rattle.gl_publisher.specs.Distances.{IsDependent, IsRelatedToSome, HasStep, IsWithin, distance_of, unknown_count, EndsWith, Finds, AreDistances}
use Rattle.gl_publisher.proofs.Finds.{finds_join, finds_same}

pair_is : (p : ℕ × ℕ) (y a : ℕ) → p.0 ≡ y → p.1 ≡ a → p ≡ (y, a)
pair_is p y a e f = ap (λ x. (x, p.1)) e ∙ ap (λ x. (y, x)) f

-- the second numbers of the pairs of one key
neighbour_from_part : (y a : ℕ) (ps : List (ℕ × ℕ)) → EndsWith (filter (λ p. p.0 == y) ps) a → IsDependent ps a y
neighbour_from_part y a [] h = absurd (Contains-nil a h)
neighbour_from_part y a (p ∷ ps) h =
    elim (cases_Bool (p.0 == y)) as (λ _. IsDependent (p ∷ ps) a y) [
      | inl t ↦
          let kept : filter (λ q. q.0 == y) (p ∷ ps) ≡ p ∷ filter (λ q. q.0 == y) ps = ap (λ b. cond b (p ∷ filter (λ q. q.0 == y) ps) (filter (λ q. q.0 == y) ps)) t in
          let there : EndsWith (p ∷ filter (λ q. q.0 == y) ps) a = subst (λ (qs : List (ℕ × ℕ)). EndsWith qs a) kept h in
          elim (Contains-cons_cases p.1 (map (λ (q : ℕ × ℕ). q.1) (filter (λ q. q.0 == y) ps)) a there) as (λ _. IsDependent (p ∷ ps) a y) [
            | inl e ↦ Contains-here p ps (y, a) (pair_is p y a (eqb-true p.0 y t) e)
            | inr later ↦ Contains-later p ps (y, a) (neighbour_from_part y a ps later)
          ]
      | inr t ↦
          let kept : filter (λ q. q.0 == y) (p ∷ ps) ≡ filter (λ q. q.0 == y) ps = ap (λ b. cond b (p ∷ filter (λ q. q.0 == y) ps) (filter (λ q. q.0 == y) ps)) t in
          Contains-later p ps (y, a) (neighbour_from_part y a ps (subst (λ (qs : List (ℕ × ℕ)). EndsWith qs a) kept h))
    ]

part_from_neighbour : (y a : ℕ) (ps : List (ℕ × ℕ)) → IsDependent ps a y → EndsWith (filter (λ p. p.0 == y) ps) a
part_from_neighbour y a [] h = absurd (Contains-nil (y, a) h)
part_from_neighbour y a (p ∷ ps) h =
    elim (cases_Bool (p.0 == y)) as (λ _. EndsWith (filter (λ q. q.0 == y) (p ∷ ps)) a) [
      | inl t ↦
          let kept : filter (λ q. q.0 == y) (p ∷ ps) ≡ p ∷ filter (λ q. q.0 == y) ps = ap (λ b. cond b (p ∷ filter (λ q. q.0 == y) ps) (filter (λ q. q.0 == y) ps)) t in
          let rest = map (λ (q : ℕ × ℕ). q.1) (filter (λ q. q.0 == y) ps) in
          let there : EndsWith (p ∷ filter (λ q. q.0 == y) ps) a =
          elim (Contains-cons_cases p ps (y, a) h) as (λ _. EndsWith (p ∷ filter (λ q. q.0 == y) ps) a) [
            | inl e ↦ Contains-here p.1 rest a (ap (λ (q : ℕ × ℕ). q.1) e)
            | inr later ↦ Contains-later p.1 rest a (part_from_neighbour y a ps later)
          ] in
          subst (λ (qs : List (ℕ × ℕ)). EndsWith qs a) (sym kept) there
      | inr t ↦
          let kept : filter (λ q. q.0 == y) (p ∷ ps) ≡ filter (λ q. q.0 == y) ps = ap (λ b. cond b (p ∷ filter (λ q. q.0 == y) ps) (filter (λ q. q.0 == y) ps)) t in
          elim (Contains-cons_cases p ps (y, a) h) as (λ _. EndsWith (filter (λ q. q.0 == y) (p ∷ ps)) a) [
            | inl e ↦ let same : (p.0 == y) ≡ true = eq-eqb p.0 y (ap (λ (q : ℕ × ℕ). q.0) e) in cc
            | inr later ↦ subst (λ (qs : List (ℕ × ℕ)). EndsWith qs a) (sym kept) (part_from_neighbour y a ps later)
          ]
    ]

some_more : (pairs : List (ℕ × ℕ)) (listed : List ℕ) (i : ℕ) → i < length listed → (a : ℕ) → IsRelatedToSome (IsDependent pairs) (take i listed) a ⊎ EndsWith (filter (λ p. p.0 == slice_index listed i) pairs) a → IsRelatedToSome (IsDependent pairs) (take (i + 1) listed) a
some_more pairs listed i l a h =
    let e : take (i + 1) listed ≡ take i listed ++ slice_index listed i ∷ [] = take_more listed i 0 l in
    subst (λ (xs : List ℕ). IsRelatedToSome (IsDependent pairs) xs a) (sym e) (elim h as (λ _. IsRelatedToSome (IsDependent pairs) (take i listed ++ slice_index listed i ∷ []) a) [
      | inl s ↦ record { on = s.on; listed = Contains-append_left (take i listed) (slice_index listed i ∷ []) s.on s.listed; depends = s.depends }
      | inr k ↦ record { on = slice_index listed i; listed = Contains-push (take i listed) (slice_index listed i); depends = neighbour_from_part (slice_index listed i) a pairs k }
    ])

some_cases : (pairs : List (ℕ × ℕ)) (listed : List ℕ) (i : ℕ) → i < length listed → (a : ℕ) → IsRelatedToSome (IsDependent pairs) (take (i + 1) listed) a → IsRelatedToSome (IsDependent pairs) (take i listed) a ⊎ EndsWith (filter (λ p. p.0 == slice_index listed i) pairs) a
some_cases pairs listed i l a s =
    let e : take (i + 1) listed ≡ take i listed ++ slice_index listed i ∷ [] = take_more listed i 0 l in
    elim (Contains-push_cases (take i listed) (slice_index listed i) s.on (subst (λ (xs : List ℕ). Contains xs s.on) e s.listed)) as (λ _. IsRelatedToSome (IsDependent pairs) (take i listed) a ⊎ EndsWith (filter (λ p. p.0 == slice_index listed i) pairs) a) [
      | inl k ↦ inl (record { on = s.on; listed = k; depends = s.depends })
      | inr q ↦ inr (part_from_neighbour (slice_index listed i) a pairs (subst (λ (x : ℕ). IsDependent pairs a x) (sym q) s.depends))
    ]

-- one number of the level more
pub finds_number : {distance : ℕ} {old mid new : List (Option ℕ)} {before between after : List ℕ} (pairs : List (ℕ × ℕ)) (listed : List ℕ) (i : ℕ) → i < length listed → Finds (IsRelatedToSome (IsDependent pairs) (take i listed)) distance old mid before between → Finds (EndsWith (filter (λ p. p.0 == slice_index listed i) pairs)) distance mid new between after → Finds (IsRelatedToSome (IsDependent pairs) (take (i + 1) listed)) distance old new before after
finds_number pairs listed i l f g = finds_same (some_more pairs listed i l) (some_cases pairs listed i l) (finds_join f g)

-- ---- from one level to the next

-- Distances while the search goes on: all numbers at a distance up to the level are found, and those at
-- the level are listed.
pub record IsAtLevel (n : ℕ) (R : ℕ → ℕ → Type 0) (start level : ℕ) (distances : List (Option ℕ)) (listed : List ℕ) : Type 0 where
  pub size : length distances ≡ n
  pub at_start : distance_of distances start ≡ Some 0
  pub only_start : (a : ℕ) → distance_of distances a ≡ Some 0 → a ≡ start
  pub step : (a d : ℕ) → distance_of distances a ≡ Some (suc d) → HasStep R distances a d
  pub bound : (a d : ℕ) → distance_of distances a ≡ Some d → d ≤ level
  pub lists : (a : ℕ) → distance_of distances a ≡ Some level → Contains listed a
  pub at_level : (a : ℕ) → Contains listed a → distance_of distances a ≡ Some level
  pub near : (a b d : ℕ) → R a b → distance_of distances b ≡ Some d → d < level → IsWithin distances a (suc d)
  pub room : level + length listed + unknown_count distances ≤ n

pub level_next : {n start level : ℕ} {R : ℕ → ℕ → Type 0} {old new : List (Option ℕ)} {listed found : List ℕ} → IsAtLevel n R start level old listed → 0 < length listed → Finds (IsRelatedToSome R listed) (suc level) old new [] found → IsAtLevel n R start (suc level) new found
level_next {n} {start} {level} {R} {old} {new} {listed} {found} at some f = record {
  size = f.size ∙ at.size;
  at_start = f.kept start 0 at.at_start;
  only_start = λ a h. elim (f.source a 0 h) as (λ _. a ≡ start) [
    | inl o ↦ at.only_start a o
    | inr s ↦ absurd (omega (arith, s.0))
  ];
  step = λ a d h. elim (f.source a (suc d) h) as (λ _. HasStep R new a d) [
    | inl o ↦ let s = at.step a d o in record { on = s.on; depends = s.depends; known = f.kept s.on d s.known }
    | inr s ↦
        let by = s.1 in
        let same : level ≡ d = omega (arith, s.0) in
        record { on = by.on; depends = by.depends; known = ap_known d by.on same (f.kept by.on level (at.at_level by.on by.listed)) }
  ];
  bound = λ a d h. elim (f.source a d h) as (λ _. d ≤ suc level) [ inl o ↦ omega (arith, at.bound a d o) | inr s ↦ omega (arith, s.0) ];
  lists = λ a h. elim (f.source a (suc level) h) as (λ _. Contains found a) [ inl o ↦ absurd (omega (arith, at.bound a (suc level) o)) | inr s ↦ s.2 ];
  at_level = λ a h. elim (f.found a h) as (λ _. distance_of new a ≡ Some (suc level)) [ inl none ↦ absurd (Contains-nil a none) | inr k ↦ k ];
  near = λ a b d dep h l. elim (f.source b d h) as (λ _. IsWithin new a (suc d)) [
    | inl o ↦ elim (cases_lt d level) as (λ _. IsWithin new a (suc d)) [
      | inl lt ↦ let w = at.near a b d dep o lt in record { distance = w.distance; known = f.kept a w.distance w.known; small = w.small }
      | inr ge ↦
          let same : d ≡ level = omega arith in
          let here : Contains listed b = at.lists b (subst (λ (x : ℕ). distance_of old b ≡ Some x) same o) in
          let k = f.known a (record { on = b; listed = here; depends = dep }) in
          record { distance = k.0; known = k.1; small = most a (k.0) k.1 d same }
    ]
    | inr s ↦ absurd (omega (arith, s.0))
  ];
  room = omega (arith, at.room, f.balance);
}
  where
    ap_known : (d x : ℕ) → level ≡ d → distance_of new x ≡ Some level → distance_of new x ≡ Some d
    ap_known d x e h = subst (λ (y : ℕ). distance_of new x ≡ Some y) e h

    most : (a d : ℕ) → distance_of new a ≡ Some d → (m : ℕ) → m ≡ level → d ≤ suc m
    most a d h m e = elim (f.source a d h) as (λ _. d ≤ suc m) [ inl o ↦ omega (arith, at.bound a d o) | inr s ↦ omega (arith, s.0) ]

-- where a level has no number, all distances are found
pub distances_from_level : {n start level : ℕ} {R : ℕ → ℕ → Type 0} {distances : List (Option ℕ)} → IsAtLevel n R start level distances [] → AreDistances n R start distances
distances_from_level {n} {start} {level} {R} {distances} at = record {
  size = at.size;
  at_start = at.at_start;
  only_start = at.only_start;
  step = at.step;
  near = λ a b d dep h. elim (cases_lt d level) as (λ _. IsWithin distances a (suc d)) [
    | inl lt ↦ at.near a b d dep h lt
    | inr ge ↦
        let same : d ≡ level = omega (arith, at.bound b d h) in
        absurd (Contains-nil b (at.lists b (subst (λ (x : ℕ). distance_of distances b ≡ Some x) same h)))
  ];
}
