-- What the store of a delta holds.
use Rattle.std.specs.Prelude.{◌≡◌, ◌+◌, ◌-◌, ◌≤◌, ◌++◌, ℕ, List, [], ◌∷◌, length, drop, Bool, true, false, Option, Some, None, slice_get}
use Rattle.spec_value.specs.Tree.{Tree}
use Rattle.spec_lists.specs.Piece.{Piece, kept, updated, deleted, inserted, old_len, new_len, normal, identity, IsNormal}
use Rattle.spec_lists.specs.Delta.{composed}
use Rattle.gl_delta.specs.declared.mark.Changed.{Changed}
use Rattle.gl_delta.specs.declared.mark.Changed.TheVariants.{Updated, Deleted, Inserted}
use Rattle.gl_delta.specs.declared.mark.TheConstants.{MOST}
use Rattle.gl_delta.specs.Model.{DeltaModel}

abbrev pub pieces : DeltaModel → List Piece
pieces t = t.pieces

-- for how many changed pieces it has room
abbrev pub room : DeltaModel → ℕ
room t = t.room

-- whether a piece is there, and of that kind
abbrev pub is_kept_piece : Option Piece → Bool
is_kept_piece None = false
is_kept_piece (Some kept) = true
is_kept_piece (Some (updated v w)) = false
is_kept_piece (Some (deleted v)) = false
is_kept_piece (Some (inserted w)) = false

abbrev pub is_inserted_piece : Option Piece → Bool
is_inserted_piece None = false
is_inserted_piece (Some kept) = false
is_inserted_piece (Some (updated v w)) = false
is_inserted_piece (Some (deleted v)) = false
is_inserted_piece (Some (inserted w)) = true

abbrev pub is_deleted_piece : Option Piece → Bool
is_deleted_piece None = false
is_deleted_piece (Some kept) = false
is_deleted_piece (Some (updated v w)) = false
is_deleted_piece (Some (deleted v)) = true
is_deleted_piece (Some (inserted w)) = false

-- from a place on the pieces are kept up to this one, which is changed or the end
pub record IsNextChanged (ps : List Piece) (from found : ℕ) : Type 0 where
  pub order : from ≤ found
  pub within : found ≤ length ps
  pub keeps : drop from ps ≡ identity (found - from) ++ drop found ps
  pub here : is_kept_piece (slice_get ps found) ≡ false

-- the values of a changed piece
abbrev pub first_of : Changed → Tree
first_of (Updated v w) = v
first_of (Deleted v) = v
first_of (Inserted w) = w

abbrev pub second_of : Changed → Tree
second_of (Updated v w) = w
second_of (Deleted v) = v
second_of (Inserted w) = w

-- the same with another new value
abbrev pub with_new : Changed → Tree → Changed
with_new (Updated v w) x = Updated v x
with_new (Deleted v) x = Deleted v
with_new (Inserted w) x = Inserted x

abbrev pub IsUpdated : Changed → Type 0
IsUpdated (Updated v w) = Unit {0}
IsUpdated (Deleted v) = ⊥
IsUpdated (Inserted w) = ⊥

-- all of them are insertions
abbrev pub AllInserted : List Piece → Type 0
AllInserted [] = Unit {0}
AllInserted (kept ∷ ps) = ⊥
AllInserted (updated v w ∷ ps) = ⊥
AllInserted (deleted v ∷ ps) = ⊥
AllInserted (inserted w ∷ ps) = AllInserted ps

abbrev pub AllDeleted : List Piece → Type 0
AllDeleted [] = Unit {0}
AllDeleted (kept ∷ ps) = ⊥
AllDeleted (updated v w ∷ ps) = ⊥
AllDeleted (deleted v ∷ ps) = AllDeleted ps
AllDeleted (inserted w ∷ ps) = ⊥

-- insertions stand from one place up to another, and after them deletions up to a third
pub record AreAfter (ps : List Piece) (to from end : ℕ) : Type 0 where
  pub prefix : List Piece
  pub insertions : List Piece
  pub deletions : List Piece
  pub rest : List Piece
  pub is : ps ≡ prefix ++ (insertions ++ (deletions ++ rest))
  pub to_is : to ≡ length prefix
  pub from_is : from ≡ to + length insertions
  pub end_is : end ≡ from + length deletions
  pub are_inserted : AllInserted insertions
  pub are_deleted : AllDeleted deletions

-- the deletions before the insertions
abbrev pub brought_forward : {ps : List Piece} {to from end : ℕ} → AreAfter ps to from end
    → List Piece
brought_forward b = b.prefix ++ (b.deletions ++ (b.insertions ++ b.rest))

-- a deletion may follow
abbrev pub EndsUninserted : List Piece → Type 0
EndsUninserted ps = (v : Tree) → IsNormal (ps ++ deleted v ∷ [])

-- pieces composed with a change, in normal form
pub record IsComposed (ps change qs : List Piece) : Type 0 where
  pub value : qs ≡ composed ps change
  pub normal : IsNormal qs

-- pieces with one more at the right end, in normal form
pub record IsPushed (ps : List Piece) (x : Piece) (qs : List Piece) : Type 0 where
  pub value : qs ≡ normal (ps ++ x ∷ [])
  pub normal : IsNormal qs

-- what a delta keeps of its pieces: how many elements its lists have, within the limit, and the normal form
pub record IsKept (ps : List Piece) (olds news : ℕ) : Type 0 where
  pub olds_is : olds ≡ old_len ps
  pub news_is : news ≡ new_len ps
  pub olds_few : olds ≤ MOST
  pub news_few : news ≤ MOST
  pub normal : IsNormal ps
