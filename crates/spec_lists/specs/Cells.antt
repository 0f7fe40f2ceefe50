-- The cells of a delta: its pieces, with the kept ones next to one another counted as one.
use Rattle.std.specs.Prelude.{ℕ, suc, List, [], ◌∷◌, replicate}
use Rattle.spec_value.specs.Tree.{Tree}
use Rattle.spec_lists.specs.Piece.{Piece, kept, updated, deleted, inserted}

-- so many kept elements; an updated one, by its old and its new value; a deleted one; an inserted one
pub data Cell : Type 0 where
  keep : ℕ → Cell
  update : Tree → Tree → Cell
  delete : Tree → Cell
  insert : Tree → Cell

-- one kept element in front
abbrev pub keep_first : List Cell → List Cell
keep_first [] = keep 1 ∷ []
keep_first (keep n ∷ cs) = keep (suc n) ∷ cs
keep_first (update v w ∷ cs) = keep 1 ∷ update v w ∷ cs
keep_first (delete v ∷ cs) = keep 1 ∷ delete v ∷ cs
keep_first (insert w ∷ cs) = keep 1 ∷ insert w ∷ cs

abbrev pub cells_of : List Piece → List Cell
cells_of [] = []
cells_of (kept ∷ ps) = keep_first (cells_of ps)
cells_of (updated v w ∷ ps) = update v w ∷ cells_of ps
cells_of (deleted v ∷ ps) = delete v ∷ cells_of ps
cells_of (inserted w ∷ ps) = insert w ∷ cells_of ps

-- the pieces that a cell counts
abbrev pub pieces_in : Cell → List Piece
pieces_in (keep n) = replicate n kept
pieces_in (update v w) = updated v w ∷ []
pieces_in (delete v) = deleted v ∷ []
pieces_in (insert w) = inserted w ∷ []
