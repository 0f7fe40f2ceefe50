-- The pairs of a delta: which old place became which new place.
use Rattle.std.specs.Prelude.{◌≡◌, ◌≤◌, ◌||◌, ℕ, suc, List, [], ◌∷◌, Bool, true, false}
use Rattle.spec_lists.specs.Piece.{Piece, kept, updated, deleted, inserted}
use Rattle.spec_lists.specs.Sides.{Item, plain, changed, lone}

-- an old place, the new place that it became, and whether the value was updated
pub record Pair : Type 0 where
  pub old : ℕ
  pub new : ℕ
  pub updated : Bool

-- the pairs of these pieces, before which i old and j new elements stand
abbrev pub pairs_from : ℕ → ℕ → List Piece → List Pair
pairs_from i j [] = []
pairs_from i j (kept ∷ ps) =
    record { old = i; new = j; updated = false } ∷ pairs_from (suc i) (suc j) ps
pairs_from i j (updated v w ∷ ps) =
    record { old = i; new = j; updated = true } ∷ pairs_from (suc i) (suc j) ps
pairs_from i j (deleted v ∷ ps) = pairs_from (suc i) j ps
pairs_from i j (inserted w ∷ ps) = pairs_from i (suc j) ps

abbrev pub pairs : List Piece → List Pair
pairs ps = pairs_from 0 0 ps

-- the pairs that a side tells: of the old elements from place i on, and of the new elements from place j on
abbrev pub pairs_of_old : ℕ → List Item → List Pair
pairs_of_old i [] = []
pairs_of_old i (plain j ∷ xs) =
    record { old = i; new = j; updated = false } ∷ pairs_of_old (suc i) xs
pairs_of_old i (changed j v ∷ xs) =
    record { old = i; new = j; updated = true } ∷ pairs_of_old (suc i) xs
pairs_of_old i (lone v ∷ xs) = pairs_of_old (suc i) xs

abbrev pub pairs_of_new : ℕ → List Item → List Pair
pairs_of_new j [] = []
pairs_of_new j (plain i ∷ ys) =
    record { old = i; new = j; updated = false } ∷ pairs_of_new (suc j) ys
pairs_of_new j (changed i w ∷ ys) =
    record { old = i; new = j; updated = true } ∷ pairs_of_new (suc j) ys
pairs_of_new j (lone w ∷ ys) = pairs_of_new (suc j) ys

-- the pairs are strictly increasing on both sides, from these places on
abbrev pub IsIncreasing : ℕ → ℕ → List Pair → Type 0
IsIncreasing i j [] = Unit {0}
IsIncreasing i j (p ∷ ps) = (i ≤ p.old) × (j ≤ p.new) × IsIncreasing (suc p.old) (suc p.new) ps

-- the first pair and then the second are the third in one, updated where either is
pub record IsJoined (first second both : Pair) : Type 0 where
  pub meet : first.new ≡ second.old
  pub from : both.old ≡ first.old
  pub to : both.new ≡ second.new
  pub is_updated : both.updated ≡ (first.updated || second.updated)
