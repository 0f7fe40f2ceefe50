-- The changes of a delta, told one after another, and their replay on a list.
use Rattle.std.specs.Prelude.{ℕ, suc, List, [], ◌∷◌, insert, remove, slice_set}
use Rattle.std.proofs.Common.{zero}
use Rattle.spec_value.specs.Tree.{Tree}
use Rattle.spec_lists.specs.Piece.{Piece, kept, updated, deleted, inserted}

-- one change of a list: at an index, by the values that it tells
pub data Change : Type 0 where
  delete : ℕ → Tree → Change
  insertion : ℕ → Tree → Change
  update : ℕ → Tree → Tree → Change

-- The changes of these pieces. The index of each is the number of elements that then stand to its left: at of them.
abbrev pub changes_from : ℕ → List Piece → List Change
changes_from at [] = []
changes_from at (kept ∷ ps) = changes_from (suc at) ps
changes_from at (updated v w ∷ ps) = update at v w ∷ changes_from (suc at) ps
changes_from at (deleted v ∷ ps) = delete at v ∷ changes_from at ps
changes_from at (inserted w ∷ ps) = insertion at w ∷ changes_from (suc at) ps

-- the changes of a delta, from left to right
abbrev pub changes : List Piece → List Change
changes ps = changes_from 0 ps

-- a list with one change made to it
abbrev pub made : Change → List Tree → List Tree
made (delete at v) xs = remove xs at
made (insertion at w) xs = insert xs at w
made (update at v w) xs = slice_set xs at w

-- the changes made to a list, one after another
abbrev pub replay : List Change → List Tree → List Tree
replay [] xs = xs
replay (c ∷ cs) xs = replay cs (made c xs)

-- how many pieces aren't kept, so how many changes there are
abbrev pub changed_len : List Piece → ℕ
changed_len [] = 0
changed_len (kept ∷ ps) = changed_len ps
changed_len (updated v w ∷ ps) = suc (changed_len ps)
changed_len (deleted v ∷ ps) = suc (changed_len ps)
changed_len (inserted w ∷ ps) = suc (changed_len ps)

-- the pieces after so many changes
abbrev pub after_changes : ℕ → List Piece → List Piece
after_changes zero ps = ps
after_changes (suc n) [] = []
after_changes (suc n) (kept ∷ ps) = after_changes (suc n) ps
after_changes (suc n) (updated v w ∷ ps) = after_changes n ps
after_changes (suc n) (deleted v ∷ ps) = after_changes n ps
after_changes (suc n) (inserted w ∷ ps) = after_changes n ps

-- how many elements of the new list stand before those
abbrev pub standing : ℕ → List Piece → ℕ
standing zero ps = 0
standing (suc n) [] = 0
standing (suc n) (kept ∷ ps) = suc (standing (suc n) ps)
standing (suc n) (updated v w ∷ ps) = suc (standing n ps)
standing (suc n) (deleted v ∷ ps) = standing n ps
standing (suc n) (inserted w ∷ ps) = suc (standing n ps)
