-- What stands while the changes of a second delta are recorded on a first one, one after another.
use Rattle.std.specs.Prelude.{◌≡◌, ◌+◌, ◌≤◌, ℕ, zero, suc, List, [], ◌∷◌, take, length}
use Rattle.spec_lists.specs.Piece.{Piece, kept, updated, deleted, inserted, old_len, new_len, IsNormal}
use Rattle.spec_lists.specs.Delta.{composed, one_insert, one_set, one_remove}
use Rattle.spec_lists.specs.Changes.{changed_len}
use Rattle.spec_lists.specs.Cells.{cells_of}
use Rattle.gl_delta.specs.declared.mark.Changed.{Changed}
use Rattle.gl_delta.specs.declared.mark.Changed.TheVariants.{Updated, Deleted, Inserted}
use Rattle.gl_delta.specs.declared.mark.TheConstants.{MOST}
use Rattle.gl_delta.specs.declared.absorb.Cursor.{Cursor}

-- how many cells two deltas have together
abbrev pub cells_together : List Piece → List Piece → ℕ
cells_together p q = length (cells_of p) + length (cells_of q)

-- one change at a place of a list of n elements
abbrev pub one_change : ℕ → ℕ → Changed → List Piece
one_change n at (Updated v w) = one_set n at v w
one_change n at (Deleted v) = one_remove n at v
one_change n at (Inserted w) = one_insert n at w

-- The deltas p and q are to be composed; s stands for p with some changes of q recorded, and t is what is left of q.
-- The lists are within the limit, and there is room for what is left.
pub record IsAbsorbing (p q s t : List Piece) (room : ℕ) : Type 0 where
  pub same : composed s t ≡ composed p q
  pub fits : new_len s ≡ old_len t
  pub normal : IsNormal s
  pub olds : old_len s ≤ MOST
  pub middle : new_len s ≤ MOST
  pub news : new_len t ≤ MOST
  pub spare : changed_len s + changed_len t ≤ room

-- no piece is deleted
abbrev pub NoneDeleted : List Piece → Type 0
NoneDeleted [] = Unit {0}
NoneDeleted (kept ∷ ps) = NoneDeleted ps
NoneDeleted (updated v w ∷ ps) = NoneDeleted ps
NoneDeleted (deleted v ∷ ps) = ⊥
NoneDeleted (inserted w ∷ ps) = NoneDeleted ps

-- how many kept pieces stand in front
abbrev pub kept_prefix : List Piece → ℕ
kept_prefix [] = 0
kept_prefix (kept ∷ ps) = suc (kept_prefix ps)
kept_prefix (updated v w ∷ ps) = 0
kept_prefix (deleted v ∷ ps) = 0
kept_prefix (inserted w ∷ ps) = 0

-- so many changes, of which the last is the last piece
abbrev pub EndsChanged : ℕ → List Piece → Type 0
EndsChanged zero [] = Unit {0}
EndsChanged zero (p ∷ ps) = ⊥
EndsChanged (suc n) [] = ⊥
EndsChanged (suc n) (kept ∷ ps) = EndsChanged (suc n) ps
EndsChanged (suc n) (updated v w ∷ ps) = EndsChanged n ps
EndsChanged (suc n) (deleted v ∷ ps) = EndsChanged n ps
EndsChanged (suc n) (inserted w ∷ ps) = EndsChanged n ps

-- a cursor stands right after its changes, none of them a deletion
pub record IsCursor (ps : List Piece) (c : Cursor) : Type 0 where
  pub within : c.position ≤ length ps
  pub later : EndsChanged c.changes (take c.position ps)
  pub olds : c.at ≡ old_len (take c.position ps)
  pub none_deleted : NoneDeleted (take c.position ps)
