-- The dependency order: at each place stands the least number not placed before whose dependencies
-- were all placed before.
use Rattle.std.specs.Prelude.{◌≡◌, ℕ, ◌<◌, List, length, take, slice_index, Contains}
use Rattle.spec_order.specs.Edges.{DependsOn}

-- k may come next: it is not placed, and all that it depends on is placed
pub record IsReady (edges : List (ℕ × ℕ)) (placed : List ℕ) (k : ℕ) : Type 0 where
  pub waits : ¬ Contains placed k
  pub free : (b : ℕ) → DependsOn edges k b → Contains placed b

-- k comes next: it is the least of the n numbers that may
pub record IsNext (n : ℕ) (edges : List (ℕ × ℕ)) (placed : List ℕ) (k : ℕ) : Type 0 where
  pub below : k < n
  pub ready : IsReady edges placed k
  pub least : (j : ℕ) → j < k → ¬ IsReady edges placed j

-- each place of xs holds what comes next after the places before it
abbrev pub IsPrefix : ℕ → List (ℕ × ℕ) → List ℕ → Type 0
IsPrefix n edges xs = (i : ℕ) → i < length xs → IsNext n edges (take i xs) (slice_index xs i)

-- xs is the dependency order of the n numbers 0, 1, .. n - 1
pub record IsOrder (n : ℕ) (edges : List (ℕ × ℕ)) (xs : List ℕ) : Type 0 where
  pub whole : length xs ≡ n
  pub prefix : IsPrefix n edges xs

-- some list is the dependency order
abbrev pub HasOrder : ℕ → List (ℕ × ℕ) → Type 0
HasOrder n edges = (xs : List ℕ) × IsOrder n edges xs
