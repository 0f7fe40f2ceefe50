-- The pieces that changed elements are, and those that are elements of one of the lists.
use Rattle.std.specs.Prelude.{◌≡◌, ◌≤◌, ℕ, List, [], ◌∷◌, length, take, drop, Bool, true, false}
use Rattle.spec_lists.specs.Piece.{Piece, kept, updated, deleted, inserted, old_len, new_len}
use Rattle.gl_delta.specs.declared.mark.Changed.{Changed}
use Rattle.gl_delta.specs.declared.mark.Changed.TheVariants.{Updated, Deleted, Inserted}
use Rattle.gl_delta.specs.declared.mark.Side.{Side}
use Rattle.gl_delta.specs.declared.mark.Side.TheVariants.{Old, New}
use Rattle.gl_delta.specs.declared.mark.Kind.{Kind}
use Rattle.gl_delta.specs.declared.mark.Kind.TheVariants as kind

abbrev pub piece_of : Changed → Piece
piece_of (Updated v w) = updated v w
piece_of (Deleted v) = deleted v
piece_of (Inserted w) = inserted w

abbrev pub kind_of : Piece → Kind
kind_of kept = kind.Kept
kind_of (updated v w) = kind.Updated
kind_of (deleted v) = kind.Deleted
kind_of (inserted w) = kind.Inserted

-- whether a changed element is one of a list
abbrev pub IsOn : Side → Changed → Bool
IsOn Old (Updated v w) = true
IsOn Old (Deleted v) = true
IsOn Old (Inserted w) = false
IsOn New (Updated v w) = true
IsOn New (Deleted v) = false
IsOn New (Inserted w) = true

-- how many elements one of the lists has
abbrev pub side_len : Side → List Piece → ℕ
side_len Old ps = old_len ps
side_len New ps = new_len ps

-- the first piece is an element of that list, if there is a first piece
abbrev pub BeginsOn : Side → List Piece → Type 0
BeginsOn Old [] = Unit {0}
BeginsOn Old (kept ∷ ps) = Unit {0}
BeginsOn Old (updated v w ∷ ps) = Unit {0}
BeginsOn Old (deleted v ∷ ps) = Unit {0}
BeginsOn Old (inserted w ∷ ps) = ⊥
BeginsOn New [] = Unit {0}
BeginsOn New (kept ∷ ps) = Unit {0}
BeginsOn New (updated v w ∷ ps) = Unit {0}
BeginsOn New (deleted v ∷ ps) = ⊥
BeginsOn New (inserted w ∷ ps) = Unit {0}

-- a place among the pieces is that of an element of a list by its place there, or the end
pub record IsSelected (side : Side) (ps : List Piece) (position found : ℕ) : Type 0 where
  pub within : found ≤ length ps
  pub before : side_len side (take found ps) ≡ position
  pub here : BeginsOn side (drop found ps)
