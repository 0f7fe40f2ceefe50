-- The same edges in another order, or the other way round.
use Rattle.std.proofs.Common.{◌≡◌, ℕ, ◌<◌, inl, inr, List, [], ◌∷◌, Option, length, map, sym, ap, subst}
use Rattle.std.specs.Prelude.{Contains, IsPermutation}
use Rattle.std.proofs.lemmas.List.Sorted.{Contains-permutation, IsPermutation-sym}
use Rattle.spec_order.specs.Edges.{DependsOn, AreWithin}
use Rattle.spec_order.specs.Cycle.{IsWalk, IsCycle, HasCycle, IsFirstCycle}
use Rattle.spec_order.proofs.Members.{Contains-cons_cases, Contains-here, Contains-later, Contains-nil}
use Rattle.spec_order.proofs.Acyclic.{walk_below}
use Rattle.spec_order.proofs.Walks.{IsFirstCycle-from}
use Rattle.gl_publisher.specs.Distances.{IsDependent, AreDistances}
use Rattle.gl_publisher.specs.Shortest.{IsShortestCycle}
use Rattle.gl_publisher.proofs.OpenCounts.{turn}

pub walk_same : (edges others : List (ℕ × ℕ)) → ((e : ℕ × ℕ) → Contains edges e → Contains others e) → (a b : ℕ) (xs : List ℕ) → IsWalk edges a xs b → IsWalk others a xs b
walk_same edges others to a b [] w = to (a, b) w
walk_same edges others to a b (x ∷ xs) w = (to (a, x) w.0, walk_same edges others to x b xs w.1)

-- a cycle of the same edges that is the shortest through the first number that is on any
pub first_from_shortest : (edges others : List (ℕ × ℕ)) (start : ℕ) (cycle : List ℕ) → IsPermutation edges others → IsShortestCycle others start cycle → ((y : ℕ) → y < start → (ys : List ℕ) → ¬ IsWalk edges y ys y) → IsFirstCycle edges cycle
first_from_shortest edges others start cycle perm s none =
    let to : (e : ℕ × ℕ) → Contains edges e → Contains others e = λ e h. Contains-permutation edges others e perm h in
    let from : (e : ℕ × ℕ) → Contains others e → Contains edges e = λ e h. Contains-permutation others edges e (IsPermutation-sym edges others perm) h in
    subst (λ (zs : List ℕ). IsFirstCycle edges zs) (sym s.begins)
    (IsFirstCycle-from edges start s.rest (record {
      walk = walk_same others edges from start start s.rest s.walk;
      none_below = none;
      shortest = λ ys w. s.shortest ys (walk_same edges others to start start ys w);
      earliest = λ ys w e. s.earliest ys (walk_same edges others to start start ys w) e;
    }))

inverse_to : (edges : List (ℕ × ℕ)) (a b : ℕ) → DependsOn edges a b → Contains (map turn edges) (b, a)
inverse_to [] a b h = absurd (Contains-nil (a, b) h)
inverse_to (e ∷ es) a b h =
    elim (Contains-cons_cases e es (a, b) h) as (λ _. Contains (map turn (e ∷ es)) (b, a)) [
      | inl q ↦ Contains-here (turn e) (map turn es) (b, a) (ap turn q)
      | inr later ↦ Contains-later (turn e) (map turn es) (b, a) (inverse_to es a b later)
    ]

inverse_from : (edges : List (ℕ × ℕ)) (a b : ℕ) → Contains (map turn edges) (b, a) → DependsOn edges a b
inverse_from [] a b h = absurd (Contains-nil (b, a) h)
inverse_from (e ∷ es) a b h =
    elim (Contains-cons_cases (turn e) (map turn es) (b, a) h) as (λ _. DependsOn (e ∷ es) a b) [
      | inl q ↦ Contains-here e es (a, b) (ap turn q)
      | inr later ↦ Contains-later e es (a, b) (inverse_from es a b later)
    ]

-- the edges in another order, against their turned ones in another order
pub depends_from_dependent : (edges dependencies dependents : List (ℕ × ℕ)) → IsPermutation edges dependencies → IsPermutation (map turn edges) dependents → (a b : ℕ) → IsDependent dependents a b → DependsOn dependencies a b
depends_from_dependent edges dependencies dependents p q a b h =
    Contains-permutation edges dependencies (a, b) p (inverse_from edges a b (Contains-permutation dependents (map turn edges) (b, a) (IsPermutation-sym (map turn edges) dependents q) h))

pub dependent_from_depends : (edges dependencies dependents : List (ℕ × ℕ)) → IsPermutation edges dependencies → IsPermutation (map turn edges) dependents → (a b : ℕ) → DependsOn dependencies a b → IsDependent dependents a b
dependent_from_depends edges dependencies dependents p q a b h =
    Contains-permutation (map turn edges) dependents (b, a) q (inverse_to edges a b (Contains-permutation dependencies edges (a, b) (IsPermutation-sym edges dependencies p) h))

pub distances_same : {n start : ℕ} {distances : List (Option ℕ)} {R S : ℕ → ℕ → Type 0} → ((a b : ℕ) → R a b → S a b) → ((a b : ℕ) → S a b → R a b) → AreDistances n R start distances → AreDistances n S start distances
distances_same {n} {start} {distances} {R} {S} to from at = record {
  size = at.size;
  at_start = at.at_start;
  only_start = at.only_start;
  step = λ a d h. let s = at.step a d h in record { on = s.on; depends = to a s.on s.depends; known = s.known };
  near = λ a b d dep h. at.near a b d (from a b dep) h;
}

-- some cycle begins below n
pub cycle_below : (n : ℕ) (edges : List (ℕ × ℕ)) → AreWithin n edges → HasCycle edges → ((y : ℕ) → y < n → (ys : List ℕ) → ¬ IsWalk edges y ys y) → ⊥
cycle_below n edges ends h none = at_cycle h.0 h.1
  where
    at_cycle : (cycle : List ℕ) → IsCycle edges cycle → ⊥
    at_cycle [] c = c
    at_cycle (x ∷ xs) c = none x (walk_below n edges x x xs ends c) xs c

-- the same of an equal table, whose length is n
pub distances_at : {n start : ℕ} {R : ℕ → ℕ → Type 0} (table others : List (Option ℕ)) → others ≡ table → AreDistances n R start table → AreDistances (length others) R start others
distances_at {n} {start} {R} table others e at =
    subst (λ (zs : List (Option ℕ)). AreDistances (length zs) R start zs) (sym e)
    (subst (λ (m : ℕ). AreDistances m R start table) (sym at.size) at)

-- distances by the turned edges are distances by the edges
pub distances_inverse : {n start : ℕ} {distances : List (Option ℕ)} (edges dependencies dependents : List (ℕ × ℕ)) → IsPermutation edges dependencies → IsPermutation (map turn edges) dependents → AreDistances n (IsDependent dependents) start distances → AreDistances n (DependsOn dependencies) start distances
distances_inverse edges dependencies dependents p q at =
    distances_same (depends_from_dependent edges dependencies dependents p q) (dependent_from_depends edges dependencies dependents p q) at
