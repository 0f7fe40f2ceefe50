-- The two lists between which a delta leads.
use Rattle.std.specs.Prelude.{◌≡◌, List, [], ◌∷◌, map}
use Rattle.spec_value.specs.Tree.{Tree}
use Rattle.spec_lists.specs.Piece.{Piece, kept, updated, deleted, inserted, inverted}

-- the list is one that the delta starts from: it has the old length, and the values that the delta tells
abbrev pub LeadsFrom : List Piece → List Tree → Type 0
LeadsFrom [] [] = Unit {0}
LeadsFrom [] (x ∷ xs) = ⊥
LeadsFrom (kept ∷ ps) [] = ⊥
LeadsFrom (kept ∷ ps) (x ∷ xs) = LeadsFrom ps xs
LeadsFrom (updated v w ∷ ps) [] = ⊥
LeadsFrom (updated v w ∷ ps) (x ∷ xs) = (x ≡ v) × LeadsFrom ps xs
LeadsFrom (deleted v ∷ ps) [] = ⊥
LeadsFrom (deleted v ∷ ps) (x ∷ xs) = (x ≡ v) × LeadsFrom ps xs
LeadsFrom (inserted w ∷ ps) xs = LeadsFrom ps xs

-- the list is one that the delta ends at
abbrev pub LeadsTo : List Piece → List Tree → Type 0
LeadsTo ps ys = LeadsFrom (map inverted ps) ys

-- what the delta makes of a list that it starts from
abbrev pub applied : List Piece → List Tree → List Tree
applied [] xs = []
applied (kept ∷ ps) [] = []
applied (kept ∷ ps) (x ∷ xs) = x ∷ applied ps xs
applied (updated v w ∷ ps) [] = []
applied (updated v w ∷ ps) (x ∷ xs) = w ∷ applied ps xs
applied (deleted v ∷ ps) [] = []
applied (deleted v ∷ ps) (x ∷ xs) = applied ps xs
applied (inserted w ∷ ps) xs = w ∷ applied ps xs

-- the list that the delta started from, where it ended at this one
abbrev pub undone : List Piece → List Tree → List Tree
undone ps ys = applied (map inverted ps) ys

-- the delta leads from one list to the other: a kept pair has equal values, all others have those that the delta tells
pub record IsDelta (ps : List Piece) (xs ys : List Tree) : Type 0 where
  pub starts : LeadsFrom ps xs
  pub ends : ys ≡ applied ps xs
