-- How the code keeps what may come next: for each number a count of its open dependencies. No public
-- clause cites this module.
use Rattle.std.specs.Prelude.{◌≡◌, ℕ, ◌+◌, Bool, not, ◌&&◌, ◌||◌, ◌==◌, List, length, slice_index, slice_index_or, count_by}
use Rattle.std.specs.Ordering.{nat_cmp}
use Rattle.std.specs.BTreeSet.{BTreeSet, contains}
use Rattle.spec_order.specs.Cycle.{IsWalk}

-- how many pairs end with a
abbrev pub ends_with : List (ℕ × ℕ) → ℕ → ℕ
ends_with pairs a = count_by (λ p. p.1 == a) pairs

-- the number has no open dependency: past the end of the list there is none to speak of
abbrev pub is_free : List ℕ → ℕ → Bool
is_free counts a = slice_index_or counts a 1 == 0

-- each count is lower by how many of the pairs end with its number
pub record Lowers (pairs : List (ℕ × ℕ)) (old new : List ℕ) : Type 0 where
  pub size : length new ≡ length old
  pub counts : (a : ℕ) → slice_index new a + ends_with pairs a ≡ slice_index old a

-- the set gains the numbers that have no open dependency any more
abbrev pub GainsFree : List ℕ → List ℕ → BTreeSet ℕ → BTreeSet ℕ → Type 0
GainsFree counts_old counts_new old new =
    (a : ℕ) → contains nat_cmp new a
    ≡ (contains nat_cmp old a || (not (is_free counts_old a) && is_free counts_new a))

-- a number with no open dependency is on no cycle
abbrev pub AreSettled : List (ℕ × ℕ) → List ℕ → Type 0
AreSettled edges counts = (a : ℕ) → slice_index counts a ≡ 0 → (xs : List ℕ) → ¬ IsWalk edges a xs a
