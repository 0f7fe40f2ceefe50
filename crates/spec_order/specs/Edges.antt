-- Who depends on whom. The items are numbers, and an edge (a, b) says that a depends on b.
use Rattle.std.specs.Prelude.{ℕ, ◌<◌, List, All, Contains}

-- a depends on b: some edge says so
abbrev pub DependsOn : List (ℕ × ℕ) → ℕ → ℕ → Type 0
DependsOn edges a b = Contains edges (a, b)

-- both ends of each edge are among the n items 0, 1, .. n - 1
abbrev pub AreWithin : ℕ → List (ℕ × ℕ) → Type 0
AreWithin n edges = All (λ e. (e.0 < n) × (e.1 < n)) edges
