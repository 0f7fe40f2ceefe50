-- Cycles of dependencies, and which of them is the first.
use Rattle.std.specs.Prelude.{◌≡◌, ℕ, ◌<◌, ◌≤◌, ◌⊎◌, List, [], ◌∷◌, length, slice_index, All, Contains, ⊤}
use Rattle.std.proofs.Common.{lit<, refl}
use Rattle.spec_order.specs.Edges.{DependsOn}

-- from a through xs to b, where each depends on the next
abbrev pub IsWalk : List (ℕ × ℕ) → ℕ → List ℕ → ℕ → Type 0
IsWalk edges a [] b = DependsOn edges a b
IsWalk edges a (x ∷ xs) b = DependsOn edges a x × IsWalk edges x xs b

-- each item depends on the next, and the last on the first
abbrev pub IsCycle : List (ℕ × ℕ) → List ℕ → Type 0
IsCycle edges [] = ⊥
IsCycle edges (x ∷ xs) = IsWalk edges x xs x

-- each of two depends on the other
two : IsCycle ((0, 1) ∷ (1, 0) ∷ []) (0 ∷ 1 ∷ [])
two = ((0, lit< tt, refl), (1, lit< tt, refl))

-- some list is a cycle
abbrev pub HasCycle : List (ℕ × ℕ) → Type 0
HasCycle edges = (cycle : List ℕ) × IsCycle edges cycle

-- xs is no later than ys as lists are sorted: by their first items, then by the next, and so on
abbrev pub IsNoLater : List ℕ → List ℕ → Type 0
IsNoLater [] ys = ⊤
IsNoLater (x ∷ xs) [] = ⊥
IsNoLater (x ∷ xs) (y ∷ ys) = (x < y) ⊎ ((x ≡ y) × IsNoLater xs ys)

-- It begins with the least number that is on any cycle. Of the cycles through that number it has
-- the fewest items, and of those with as few it is the first as lists are sorted.
pub record IsFirstCycle (edges : List (ℕ × ℕ)) (cycle : List ℕ) : Type 0 where
  pub closed : IsCycle edges cycle
  pub least : (other : List ℕ) → IsCycle edges other → All (λ x. slice_index cycle 0 ≤ x) other
  pub fewest : (other : List ℕ) → IsCycle edges other → Contains other (slice_index cycle 0)
      → length cycle ≤ length other
  pub earliest : (other : List ℕ) → IsCycle edges other → Contains other (slice_index cycle 0)
      → length other ≡ length cycle → IsNoLater cycle other
