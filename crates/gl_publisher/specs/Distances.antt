-- How far numbers are from a start, as a search by levels finds it. No public clause cites this module.
use Rattle.std.specs.Prelude.{◌≡◌, ℕ, suc, ◌+◌, ◌≤◌, ◌⊎◌, List, length, map, Option, Some, None, is_none, count_by, slice_index_or, Contains}

-- a depends on b, where each pair is a dependency and what depends on it. Below, R a b says so too.
abbrev pub IsDependent : List (ℕ × ℕ) → ℕ → ℕ → Type 0
IsDependent pairs a b = Contains pairs (b, a)

-- the distance of a number, if it is known
abbrev pub distance_of : List (Option ℕ) → ℕ → Option ℕ
distance_of distances a = slice_index_or distances a None

-- the distance of a number is known, and is at most so much
pub record IsWithin (distances : List (Option ℕ)) (a most : ℕ) : Type 0 where
  pub distance : ℕ
  pub known : distance_of distances a ≡ Some distance
  pub small : distance ≤ most

-- a dependency of a number that is at this distance
pub record HasStep (R : ℕ → ℕ → Type 0) (distances : List (Option ℕ)) (a distance : ℕ) : Type 0
  where
    pub on : ℕ
    pub depends : R a on
    pub known : distance_of distances on ≡ Some distance

-- how many numbers have no distance yet
abbrev pub unknown_count : List (Option ℕ) → ℕ
unknown_count distances = count_by is_none distances

-- Each target that had no distance has this one now, and is among those found.
pub record Finds (IsTarget : ℕ → Type 0) (distance : ℕ) (old new : List (Option ℕ))
    (before after : List ℕ) : Type 0 where
  pub size : length new ≡ length old
  pub kept : (a d : ℕ) → distance_of old a ≡ Some d → distance_of new a ≡ Some d
  pub known : (a : ℕ) → IsTarget a → (d : ℕ) × (distance_of new a ≡ Some d)
  pub source : (a d : ℕ) → distance_of new a ≡ Some d
      → (distance_of old a ≡ Some d) ⊎ ((d ≡ distance) × IsTarget a × Contains after a)
  pub carried : (a : ℕ) → Contains before a → Contains after a
  pub found : (a : ℕ) → Contains after a → Contains before a ⊎ (distance_of new a ≡ Some distance)
  pub balance : unknown_count new + length after ≡ unknown_count old + length before

-- a pair ends with a
abbrev pub EndsWith : List (ℕ × ℕ) → ℕ → Type 0
EndsWith pairs a = Contains (map (λ p. p.1) pairs) a

-- a depends on one of the numbers
pub record IsRelatedToSome (R : ℕ → ℕ → Type 0) (numbers : List ℕ) (a : ℕ) : Type 0 where
  pub on : ℕ
  pub listed : Contains numbers on
  pub depends : R a on

-- The distances to the start along dependencies: the start's is 0, each other number with a distance
-- depends on one that is a step nearer, and on none that is two steps nearer.
pub record AreDistances (n : ℕ) (R : ℕ → ℕ → Type 0) (start : ℕ)
    (distances : List (Option ℕ)) : Type 0 where
  pub size : length distances ≡ n
  pub at_start : distance_of distances start ≡ Some 0
  pub only_start : (a : ℕ) → distance_of distances a ≡ Some 0 → a ≡ start
  pub step : (a d : ℕ) → distance_of distances a ≡ Some (suc d) → HasStep R distances a d
  pub near : (a b d : ℕ) → R a b → distance_of distances b ≡ Some d → IsWithin distances a (suc d)
