-- What becomes of each item of a list, from left to right, and the edits that bring it about.
use Rattle.std.specs.Prelude.{ℕ, suc, List, [], ◌∷◌}
use Rattle.spec_value.specs.Tree.{Tree}
use Rattle.spec_lists.specs.Piece.{Piece, kept, updated, deleted, inserted}
use Rattle.gl_kernel.specs.declared.log_step.LogStep.{LogStep}
use Rattle.gl_kernel.specs.declared.log_step.LogStep.TheVariants.{Insert, Remove, Set}

-- an item stays, becomes another one, or goes; or a new one comes
pub data Fate (T : Type 0) : Type 0 where
  stays : Fate T
  becomes : T → Fate T
  goes : Fate T
  comes : T → Fate T

module _ {T : Type 0} where
  -- what these make of a list, which has as many items as they speak of
  abbrev pub outcome : List (Fate T) → List T → List T
  outcome [] xs = []
  outcome (stays ∷ fs) [] = []
  outcome (stays ∷ fs) (x ∷ xs) = x ∷ outcome fs xs
  outcome (becomes y ∷ fs) [] = []
  outcome (becomes y ∷ fs) (x ∷ xs) = y ∷ outcome fs xs
  outcome (goes ∷ fs) [] = []
  outcome (goes ∷ fs) (x ∷ xs) = outcome fs xs
  outcome (comes y ∷ fs) xs = y ∷ outcome fs xs

  -- how many items they speak of
  abbrev pub spoken : List (Fate T) → ℕ
  spoken [] = 0
  spoken (stays ∷ fs) = suc (spoken fs)
  spoken (becomes y ∷ fs) = suc (spoken fs)
  spoken (goes ∷ fs) = suc (spoken fs)
  spoken (comes y ∷ fs) = spoken fs

  -- the edits for the items from a place on; made the last one first, each finds the items before its place untouched
  abbrev pub edits_of : ℕ → List (Fate T) → List (LogStep T)
  edits_of i [] = []
  edits_of i (stays ∷ fs) = edits_of (suc i) fs
  edits_of i (becomes y ∷ fs) = Set i y ∷ edits_of (suc i) fs
  edits_of i (goes ∷ fs) = Remove i ∷ edits_of (suc i) fs
  edits_of i (comes y ∷ fs) = Insert i y ∷ edits_of i fs

  -- what a delta makes of the items that a function gives of its elements
  abbrev pub fate : (Tree → T) → Piece → Fate T
  fate f kept = stays
  fate f (updated v w) = becomes (f w)
  fate f (deleted v) = goes
  fate f (inserted w) = comes (f w)
