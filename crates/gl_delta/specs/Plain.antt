-- Kept pieces, counted and found among all.
use Rattle.std.specs.Prelude.{◌≡◌, ℕ, suc, List, [], ◌∷◌, take, Some, slice_get}
use Rattle.spec_lists.specs.Piece.{Piece, kept, updated, deleted, inserted}

-- how many pieces are kept
abbrev pub kept_len : List Piece → ℕ
kept_len [] = 0
kept_len (kept ∷ ps) = suc (kept_len ps)
kept_len (updated v w ∷ ps) = kept_len ps
kept_len (deleted v ∷ ps) = kept_len ps
kept_len (inserted w ∷ ps) = kept_len ps

-- a place is that of a kept piece, before which stand so many other kept ones
pub record IsKeptAt (ps : List Piece) (k position : ℕ) : Type 0 where
  pub got : slice_get ps position ≡ Some kept
  pub before : kept_len (take position ps) ≡ k
