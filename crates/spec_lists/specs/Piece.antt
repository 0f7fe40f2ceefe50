-- A delta between an old list and a new one, told from left to right, an element at a time.
use Rattle.std.specs.Prelude.{◌≡◌, ◌⊎◌, ℕ, suc, List, [], ◌∷◌, map, replicate, Option, Some, None, refl}
use Rattle.std.proofs.Common.{inl, inr}
use Rattle.std.specs.Coded.{Coded, code_by, coded×, coded⊎, coded_option}
use Rattle.spec_value.specs.Tree.{Tree}
use Rattle.spec_value.specs.Code.{tree_code}

-- What became of an element. A kept and an updated one are a pair: an old element and the new one that it became. A kept
-- pair has one value; an updated one tells the old and the new value, which may be equal.
pub data Piece : Type 0 where
  kept : Piece
  updated : Tree → Tree → Piece
  deleted : Tree → Piece
  inserted : Tree → Piece

-- the same seen from the new list to the old one
abbrev pub inverted : Piece → Piece
inverted kept = kept
inverted (updated v w) = updated w v
inverted (deleted v) = inserted v
inverted (inserted w) = deleted w

-- how many elements the old list has
abbrev pub old_len : List Piece → ℕ
old_len [] = 0
old_len (kept ∷ ps) = suc (old_len ps)
old_len (updated v w ∷ ps) = suc (old_len ps)
old_len (deleted v ∷ ps) = suc (old_len ps)
old_len (inserted w ∷ ps) = old_len ps

-- how many elements the new list has
abbrev pub new_len : List Piece → ℕ
new_len ps = old_len (map inverted ps)

-- the delta of a list of n elements that doesn't change
abbrev pub identity : ℕ → List Piece
identity n = replicate n kept

-- there is no deletion in front
abbrev pub BeginsUndeleted : List Piece → Type 0
BeginsUndeleted [] = Unit {0}
BeginsUndeleted (kept ∷ ps) = Unit {0}
BeginsUndeleted (updated v w ∷ ps) = Unit {0}
BeginsUndeleted (deleted v ∷ ps) = ⊥
BeginsUndeleted (inserted w ∷ ps) = Unit {0}

-- Between two pairs the deletions come first, then the insertions: no insertion stands right before a deletion.
abbrev pub IsNormal : List Piece → Type 0
IsNormal [] = Unit {0}
IsNormal (kept ∷ ps) = IsNormal ps
IsNormal (updated v w ∷ ps) = IsNormal ps
IsNormal (deleted v ∷ ps) = IsNormal ps
IsNormal (inserted w ∷ ps) = BeginsUndeleted ps × IsNormal ps

-- an insertion put in front, after the deletions that stand there
abbrev pub insert_first : Tree → List Piece → List Piece
insert_first w [] = inserted w ∷ []
insert_first w (kept ∷ ps) = inserted w ∷ kept ∷ ps
insert_first w (updated v x ∷ ps) = inserted w ∷ updated v x ∷ ps
insert_first w (deleted v ∷ ps) = deleted v ∷ insert_first w ps
insert_first w (inserted x ∷ ps) = inserted w ∷ inserted x ∷ ps

-- the same pieces with the deletions before the insertions between two pairs
abbrev pub normal : List Piece → List Piece
normal [] = []
normal (kept ∷ ps) = kept ∷ normal ps
normal (updated v w ∷ ps) = updated v w ∷ normal ps
normal (deleted v ∷ ps) = deleted v ∷ normal ps
normal (inserted w ∷ ps) = insert_first w (normal ps)

-- how the logic stores a piece
abbrev pub Stored : Type 0
Stored = Option ((Tree × Tree) ⊎ (Tree ⊎ Tree))

abbrev pub to_stored : Piece → Stored
to_stored kept = None
to_stored (updated v w) = Some (inl (v, w))
to_stored (deleted v) = Some (inr (inl v))
to_stored (inserted w) = Some (inr (inr w))

abbrev pub from_stored : Stored → Piece
from_stored None = kept
from_stored (Some (inl p)) = updated p.0 p.1
from_stored (Some (inr (inl v))) = deleted v
from_stored (Some (inr (inr w))) = inserted w

pub from_stored-to_stored : (p : Piece) → from_stored (to_stored p) ≡ p
from_stored-to_stored kept = refl
from_stored-to_stored (updated v w) = refl
from_stored-to_stored (deleted v) = refl
from_stored-to_stored (inserted w) = refl

abbrev pub piece_code : Coded Piece
piece_code =
    code_by Stored (coded_option (coded⊎ (coded× tree_code tree_code) (coded⊎ tree_code tree_code)))
    to_stored from_stored from_stored-to_stored
