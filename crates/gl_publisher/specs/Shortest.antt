-- The least number or distance among some pairs, and the shortest cycle through a number. No public
-- clause cites this module.
use Rattle.std.specs.Prelude.{◌≡◌, ℕ, ◌≤◌, ◌==◌, min, List, ◌∷◌, length, Option, Some, None, if◌then◌else◌, Contains}
use Rattle.spec_order.specs.Cycle.{IsWalk, IsNoLater}
use Rattle.gl_publisher.specs.Distances.{distance_of}

-- m is given at one of the pairs, and nothing less at any
pub record IsLeastAt (f : ℕ × ℕ → Option ℕ) (pairs : List (ℕ × ℕ)) (m : ℕ) : Type 0 where
  pub pair : ℕ × ℕ
  pub listed : Contains pairs pair
  pub gives : f pair ≡ Some m
  pub least : (p : ℕ × ℕ) (d : ℕ) → Contains pairs p → f p ≡ Some d → m ≤ d

-- the least that is given at the pairs, if anything is
abbrev pub IsLeast : (ℕ × ℕ → Option ℕ) → List (ℕ × ℕ) → Option ℕ → Type 0
IsLeast f pairs None = (p : ℕ × ℕ) → Contains pairs p → f p ≡ None
IsLeast f pairs (Some m) = IsLeastAt f pairs m

-- the lesser, where there are two
abbrev pub lesser : Option ℕ → Option ℕ → Option ℕ
lesser None b = b
lesser (Some a) None = Some a
lesser (Some a) (Some b) = Some (min a b)

-- a number, if what is known of its distance is what is wanted
abbrev pub number_if : Option ℕ → ℕ → ℕ → Option ℕ
number_if None wanted number = None
number_if (Some distance) wanted number = if distance == wanted then Some number else None

-- the distance of a pair's second number
abbrev pub distance_to : List (Option ℕ) → ℕ × ℕ → Option ℕ
distance_to distances p = distance_of distances p.1

-- a pair's second number, if it is at the distance
abbrev pub number_at : List (Option ℕ) → ℕ → ℕ × ℕ → Option ℕ
number_at distances wanted p = number_if (distance_of distances p.1) wanted p.1

-- Of the cycles that begin with start, this one has the fewest items, and of those with as few it is the
-- first as lists are sorted.
pub record IsShortestCycle (edges : List (ℕ × ℕ)) (start : ℕ) (cycle : List ℕ) : Type 0 where
  pub rest : List ℕ
  pub begins : cycle ≡ start ∷ rest
  pub walk : IsWalk edges start rest start
  pub shortest : (ys : List ℕ) → IsWalk edges start ys start → length rest ≤ length ys
  pub earliest : (ys : List ℕ) → IsWalk edges start ys start → length ys ≡ length rest
      → IsNoLater rest ys
