-- A delta seen from each of its two lists, and composition by going from partner to partner.
use Rattle.std.specs.Prelude.{ℕ, suc, List, [], ◌∷◌, ◌++◌, map, slice_index_or}
use Rattle.spec_value.specs.Tree.{Tree}
use Rattle.spec_lists.specs.Piece.{Piece, kept, updated, deleted, inserted, inverted}

-- What an element of a list is in a delta: it has an equal partner at a place of the other list; or a partner there
-- that has another value, where its own is this; or no partner, and its value is this.
pub data Item : Type 0 where
  plain : ℕ → Item
  changed : ℕ → Tree → Item
  lone : Tree → Item

-- the elements of the old and of the new list
pub record Sides : Type 0 where
  pub old : List Item
  pub new : List Item

-- the old elements of these pieces, before which j elements of the new list stand
abbrev pub olds : ℕ → List Piece → List Item
olds j [] = []
olds j (kept ∷ ps) = plain j ∷ olds (suc j) ps
olds j (updated v w ∷ ps) = changed j v ∷ olds (suc j) ps
olds j (deleted v ∷ ps) = lone v ∷ olds j ps
olds j (inserted w ∷ ps) = olds (suc j) ps

-- the new elements of these pieces, before which i elements of the old list stand
abbrev pub news : ℕ → List Piece → List Item
news i ps = olds i (map inverted ps)

abbrev pub sides : List Piece → Sides
sides ps = record { old = olds 0 ps; new = news 0 ps }

-- an element that changed on its way to a partner, seen from its own list, where its value is v
abbrev pub carry : Tree → Item → Item
carry v (plain k) = changed k v
carry v (changed k x) = changed k v
carry v (lone x) = lone v

-- an element whose partner is among these items of the middle list, seen in the composition
abbrev pub through : List Item → Item → Item
through middle (plain j) = slice_index_or middle j (plain j)
through middle (changed j v) = carry v (slice_index_or middle j (plain j))
through middle (lone v) = lone v

-- first the delta p, then the delta q
abbrev pub compose : Sides → Sides → Sides
compose p q = record { old = map (through q.old) p.old; new = map (through p.new) q.new }

-- from the new list to the old one
abbrev pub swapped : Sides → Sides
swapped p = record { old = p.new; new = p.old }

-- the insertions in front
abbrev pub inserted_first : List Item → List Piece
inserted_first [] = []
inserted_first (plain i ∷ ys) = []
inserted_first (changed i w ∷ ys) = []
inserted_first (lone w ∷ ys) = inserted w ∷ inserted_first ys

-- the new elements after the first one that has a partner
abbrev pub after_pair : List Item → List Item
after_pair [] = []
after_pair (plain i ∷ ys) = ys
after_pair (changed i w ∷ ys) = ys
after_pair (lone w ∷ ys) = after_pair ys

-- the value of the first new element that has a partner and told its value
abbrev pub paired_value : Tree → List Item → Tree
paired_value v [] = v
paired_value v (plain i ∷ ys) = v
paired_value v (changed i w ∷ ys) = w
paired_value v (lone w ∷ ys) = paired_value v ys

-- The pieces of two sides: the old elements in order, and before each pair the new elements that stand before it; so
-- between two pairs the deletions come first.
abbrev pub woven : List Item → List Item → List Piece
woven [] ys = inserted_first ys
woven (plain j ∷ xs) ys = inserted_first ys ++ kept ∷ woven xs (after_pair ys)
woven (changed j v ∷ xs) ys =
    inserted_first ys ++ updated v (paired_value v ys) ∷ woven xs (after_pair ys)
woven (lone v ∷ xs) ys = deleted v ∷ woven xs ys

abbrev pub pieces_of : Sides → List Piece
pieces_of s = woven s.old s.new
