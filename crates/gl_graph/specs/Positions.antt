-- The places of numbers in an order.
use Rattle.std.specs.Prelude.{◌≡◌, ◌<◌, ℕ, List, length, slice_index}

-- all are below n
abbrev pub AreBelow : ℕ → List ℕ → Type 0
AreBelow n order = (p : ℕ) → p < length order → slice_index order p < n

-- no number comes twice
abbrev pub AreDistinct : List ℕ → Type 0
AreDistinct order =
    (p q : ℕ) → p < length order → q < length order → slice_index order p ≡ slice_index order q
    → p ≡ q

-- under each of the first n numbers of the order is its place there
abbrev pub ArePositions : List ℕ → List ℕ → ℕ → Type 0
ArePositions positions order n = (p : ℕ) → p < n → slice_index positions (slice_index order p) ≡ p
