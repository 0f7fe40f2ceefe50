-- The shortest cycle through a number, by the distances to it.
use Rattle.std.proofs.Common.{◌≡◌, ℕ, zero, suc, ◌≤◌, inl, inr, ◌==◌, true, cond, List, [], ◌∷◌, Option, Some, None, length, filter, refl, sym, ap, ◌∙◌, subst, arith}
use Rattle.std.specs.Prelude.{Contains}
use Rattle.std.proofs.lemmas.Bool.{cases_eq, cases_Bool, eqb-true, eq-eqb}
use Rattle.spec_order.specs.Edges.{DependsOn}
use Rattle.spec_order.specs.Cycle.{IsWalk, IsNoLater}
use Rattle.spec_order.proofs.Members.{Contains-cons_cases, Contains-here, Contains-later, Contains-nil}
use Rattle.gl_publisher.specs.Distances.{IsWithin, distance_of, AreDistances}
use Rattle.gl_publisher.specs.Shortest.{IsLeast, IsLeastAt, IsShortestCycle, number_if, distance_to, number_at}

-- ---- the pairs of one key

in_part : (pairs : List (ℕ × ℕ)) (k b : ℕ) → DependsOn pairs k b → Contains (filter (λ p. p.0 == k) pairs) (k, b)
in_part [] k b h = absurd (Contains-nil (k, b) h)
in_part (p ∷ ps) k b h =
    elim (cases_Bool (p.0 == k)) as (λ _. Contains (filter (λ q. q.0 == k) (p ∷ ps)) (k, b)) [
      | inl t ↦
          let kept : filter (λ q. q.0 == k) (p ∷ ps) ≡ p ∷ filter (λ q. q.0 == k) ps = ap (λ b. cond b (p ∷ filter (λ q. q.0 == k) ps) (filter (λ q. q.0 == k) ps)) t in
          subst (λ (qs : List (ℕ × ℕ)). Contains qs (k, b)) (sym kept)
          (elim (Contains-cons_cases p ps (k, b) h) as (λ _. Contains (p ∷ filter (λ q. q.0 == k) ps) (k, b)) [
            | inl e ↦ Contains-here p (filter (λ q. q.0 == k) ps) (k, b) e
            | inr later ↦ Contains-later p (filter (λ q. q.0 == k) ps) (k, b) (in_part ps k b later)
          ])
      | inr t ↦
          let kept : filter (λ q. q.0 == k) (p ∷ ps) ≡ filter (λ q. q.0 == k) ps = ap (λ b. cond b (p ∷ filter (λ q. q.0 == k) ps) (filter (λ q. q.0 == k) ps)) t in
          elim (Contains-cons_cases p ps (k, b) h) as (λ _. Contains (filter (λ q. q.0 == k) (p ∷ ps)) (k, b)) [
            | inl e ↦ let same : (p.0 == k) ≡ true = eq-eqb p.0 k (ap (λ (q : ℕ × ℕ). q.0) e) in cc
            | inr later ↦ subst (λ (qs : List (ℕ × ℕ)). Contains qs (k, b)) (sym kept) (in_part ps k b later)
          ]
    ]

from_part : (pairs : List (ℕ × ℕ)) (k : ℕ) (p : ℕ × ℕ) → Contains (filter (λ q. q.0 == k) pairs) p → DependsOn pairs k p.1
from_part [] k p h = absurd (Contains-nil p h)
from_part (q ∷ qs) k p h =
    elim (cases_Bool (q.0 == k)) as (λ _. DependsOn (q ∷ qs) k p.1) [
      | inl t ↦
          let kept : filter (λ r. r.0 == k) (q ∷ qs) ≡ q ∷ filter (λ r. r.0 == k) qs = ap (λ b. cond b (q ∷ filter (λ r. r.0 == k) qs) (filter (λ r. r.0 == k) qs)) t in
          elim (Contains-cons_cases q (filter (λ r. r.0 == k) qs) p (subst (λ (rs : List (ℕ × ℕ)). Contains rs p) kept h)) as (λ _. DependsOn (q ∷ qs) k p.1) [
            | inl e ↦ Contains-here q qs (k, p.1) (ap (λ x. (x, q.1)) (eqb-true q.0 k t) ∙ ap (λ x. (k, x)) (ap (λ (r : ℕ × ℕ). r.1) e))
            | inr later ↦ Contains-later q qs (k, p.1) (from_part qs k p later)
          ]
      | inr t ↦
          let kept : filter (λ r. r.0 == k) (q ∷ qs) ≡ filter (λ r. r.0 == k) qs = ap (λ b. cond b (q ∷ filter (λ r. r.0 == k) qs) (filter (λ r. r.0 == k) qs)) t in
          Contains-later q qs (k, p.1) (from_part qs k p (subst (λ (rs : List (ℕ × ℕ)). Contains rs p) kept h))
    ]

-- ---- numbers at a distance

number_if-some : (o : Option ℕ) (wanted number x : ℕ) → number_if o wanted number ≡ Some x → (o ≡ Some wanted) × (number ≡ x)
number_if-some None wanted number x h = cc
number_if-some (Some d) wanted number x h =
    elim (cases_Bool (d == wanted)) as (λ _. (Some d ≡ Some wanted) × (number ≡ x)) [
      | inl t ↦
          let e : number_if (Some d) wanted number ≡ Some number = ap (λ b. cond b (Some number) None) t in
          (ap (λ (y : ℕ). Some y) (eqb-true d wanted t), cc)
      | inr t ↦ let e : number_if (Some d) wanted number ≡ None = ap (λ b. cond b (Some number) None) t in cc
    ]

some-number_if : (o : Option ℕ) (wanted number : ℕ) → o ≡ Some wanted → number_if o wanted number ≡ Some number
some-number_if o wanted number e =
    ap (λ x. number_if x wanted number) e ∙ ap (λ b. cond b (Some number) None) (eq-eqb wanted wanted refl)

-- ---- walks to the start are at least as long as the distance

walk_within : {n start : ℕ} (edges : List (ℕ × ℕ)) {distances : List (Option ℕ)} → AreDistances n (DependsOn edges) start distances → (x : ℕ) (ws : List ℕ) → IsWalk edges x ws start → IsWithin distances x (suc (length ws))
walk_within {n} {start} edges at x [] w = at.near x start 0 w at.at_start
walk_within {n} {start} edges at x (z ∷ zs) w =
    let k = walk_within edges at z zs w.1 in
    let s = at.near x z k.distance w.0 k.known in
    record { distance = s.distance; known = s.known; small = omega (arith, k.small, s.small) }

-- ---- going on by the least dependency that is a step nearer

-- x is the least dependency of a from which a walk of so many steps more leads to the start
pub record IsBestStep (edges : List (ℕ × ℕ)) (start a x more : ℕ) : Type 0 where
  pub depends : DependsOn edges a x
  pub least : (y : ℕ) (ys : List ℕ) → DependsOn edges a y → IsWalk edges y ys start → length ys ≡ more → x ≤ y

abbrev pub IsBest : List (ℕ × ℕ) → ℕ → ℕ → ℕ → List ℕ → Type 0
IsBest edges start a zero [] = DependsOn edges a start
IsBest edges start a zero (x ∷ xs) = ⊥
IsBest edges start a (suc m) [] = ⊥
IsBest edges start a (suc m) (x ∷ xs) = IsBestStep edges start a x m × IsBest edges start x m xs

best_walk : (edges : List (ℕ × ℕ)) (start a m : ℕ) (xs : List ℕ) → IsBest edges start a m xs → IsWalk edges a xs start
best_walk edges start a zero [] b = b
best_walk edges start a zero (x ∷ xs) b = absurd b
best_walk edges start a (suc m) [] b = absurd b
best_walk edges start a (suc m) (x ∷ xs) b = (b.0.depends, best_walk edges start x m xs b.1)

best_length : (edges : List (ℕ × ℕ)) (start a m : ℕ) (xs : List ℕ) → IsBest edges start a m xs → length xs ≡ m
best_length edges start a zero [] b = refl
best_length edges start a zero (x ∷ xs) b = absurd b
best_length edges start a (suc m) [] b = absurd b
best_length edges start a (suc m) (x ∷ xs) b = omega (arith, best_length edges start x m xs b.1)

best_earliest : (edges : List (ℕ × ℕ)) (start a m : ℕ) (xs ys : List ℕ) → IsBest edges start a m xs → IsWalk edges a ys start → length ys ≡ m → IsNoLater xs ys
best_earliest edges start a zero [] ys b w e = tt
best_earliest edges start a zero (x ∷ xs) ys b w e = absurd b
best_earliest edges start a (suc m) [] ys b w e = absurd b
best_earliest edges start a (suc m) (x ∷ xs) [] b w e = absurd (omega arith)
best_earliest edges start a (suc m) (x ∷ xs) (y ∷ ys) b w e =
    elim (cases_eq x y) as (λ _. IsNoLater (x ∷ xs) (y ∷ ys)) [
      | inl q ↦ inr (q, best_earliest edges start x m xs ys b.1 (subst (λ (z : ℕ). IsWalk edges z ys start) (sym q) w.1) (omega arith))
      | inr ne ↦ inl (omega (arith, b.0.least y ys w.0 w.1 (omega arith)))
    ]

-- the cycle so far: whatever goes on by best steps from its last item is a best cycle
pub record IsBestFrom (edges : List (ℕ × ℕ)) (start m : ℕ) (cycle : List ℕ) : Type 0 where
  pub rest : List ℕ
  pub begins : cycle ≡ start ∷ rest
  pub best : IsBest edges start start m rest

module _ {n start : ℕ} (edges : List (ℕ × ℕ)) {distances : List (Option ℕ)} (at : AreDistances n (DependsOn edges) start distances) where
  -- a is followed by a dependency at the distance, and by none that is nearer
  abbrev pub IsNearest : ℕ → ℕ → Type 0
  IsNearest a m = IsLeastAt (distance_to distances) (filter (λ p. p.0 == a) edges) m

  pub nearest_least : (a m y d : ℕ) → IsNearest a m → DependsOn edges a y → distance_of distances y ≡ Some d → m ≤ d
  nearest_least a m y d near dep known = near.least (a, y) d (in_part edges a y dep) known

  -- no walk back is shorter
  pub nearest_shortest : (a m : ℕ) (ys : List ℕ) → IsNearest a m → IsWalk edges a ys start → m ≤ length ys
  nearest_shortest a m [] near w = nearest_least a m start 0 near w at.at_start
  nearest_shortest a m (y ∷ ys) near w =
      let k = walk_within edges at y ys w.1 in
      omega (arith, nearest_least a m y k.distance near w.0 k.known, k.small)

  pub cycle_from_best : (m : ℕ) (cycle : List ℕ) → IsNearest start m → IsBestFrom edges start m cycle → IsShortestCycle edges start cycle
  cycle_from_best m cycle near b =
      let size = best_length edges start start m b.rest b.best in
      record {
        rest = b.rest;
        begins = b.begins;
        walk = best_walk edges start start m b.rest b.best;
        shortest = λ ys w. omega (arith, nearest_shortest start m ys near w);
        earliest = λ ys w e. best_earliest edges start start m b.rest ys b.best w (e ∙ size);
      }

  -- at distance 0 the start itself follows
  pub nearest_end : (a : ℕ) → IsNearest a 0 → DependsOn edges a start
  nearest_end a near =
      let is_start = at.only_start near.pair.1 near.gives in
      subst (λ (x : ℕ). DependsOn edges a x) is_start (from_part edges a near.pair near.listed)

  -- some dependency is at the distance
  pub nearest_some : (a m : ℕ) (o : Option ℕ) → IsNearest a m → IsLeast (number_at distances m) (filter (λ p. p.0 == a) edges) o → (x : ℕ) × (o ≡ Some x)
  nearest_some a m None near h =
      let e = some-number_if (distance_of distances near.pair.1) m near.pair.1 near.gives in
      let none = h near.pair near.listed in
      cc
  nearest_some a m (Some x) near h = (x, refl)

  -- the least dependency at the distance is the best step
  pub best_step : (a m x : ℕ) → IsNearest a (suc m) → IsLeastAt (number_at distances (suc m)) (filter (λ p. p.0 == a) edges) x → IsBestStep edges start a x m
  best_step a m x near h =
      let s = number_if-some (distance_of distances h.pair.1) (suc m) h.pair.1 x h.gives in
      record {
        depends = subst (λ (z : ℕ). DependsOn edges a z) s.1 (from_part edges a h.pair h.listed);
        least = λ y ys dep w e.
            let k = walk_within edges at y ys w in
            let exact : k.distance ≡ suc m = omega (arith, nearest_least a (suc m) y k.distance near dep k.known, k.small, e) in
            let known : distance_of distances y ≡ Some (suc m) = k.known ∙ ap (λ (z : ℕ). Some z) exact in
            h.least (a, y) y (in_part edges a y dep) (some-number_if (distance_of distances y) (suc m) y known);
      }

  pub step_known : (a m x : ℕ) → IsLeastAt (number_at distances m) (filter (λ p. p.0 == a) edges) x → distance_of distances x ≡ Some m
  step_known a m x h =
      let s = number_if-some (distance_of distances h.pair.1) m h.pair.1 x h.gives in
      ap (distance_of distances) (sym s.1) ∙ s.0

  -- and from there the next is a step nearer
  pub nearest_next : (m x : ℕ) → distance_of distances x ≡ Some (suc m) → IsNearest x m
  nearest_next m x known =
      let s = at.step x m known in
      record {
        pair = (x, s.on);
        listed = in_part edges x s.on s.depends;
        gives = s.known;
        least = λ p d c g.
            let w = at.near x p.1 d (from_part edges x p c) g in
            let same : suc m ≡ w.distance = same_some (suc m) w.distance (sym known ∙ w.known) in
            omega (arith, w.small);
      }
    where
      same_some : (a b : ℕ) → Some a ≡ Some b → a ≡ b
      same_some a b e = cc

  -- where no dependency has a distance, no walk leads back
  pub no_walk : (a : ℕ) (ys : List ℕ) → IsLeast (distance_to distances) (filter (λ p. p.0 == a) edges) None → ¬ IsWalk edges a ys start
  no_walk a [] none w = let e = none (a, start) (in_part edges a start w) in let k = at.at_start in cc
  no_walk a (y ∷ ys) none w =
      let e = none (a, y) (in_part edges a y w.0) in
      let k = (walk_within edges at y ys w.1).known in
      cc
