-- The part of a delta's new list that a derived list knows while it follows: all that stands below a place, and from
-- there on what the old list had as it is.
use Rattle.std.specs.Prelude.{◌≡◌, ◌++◌, ℕ, zero, suc, List, [], ◌∷◌, take, drop, Option, Some, None, option_map, pos, refl}
use Rattle.spec_value.specs.Tree.{Tree, num}
use Rattle.spec_lists.specs.Piece.{Piece, kept, updated, deleted, inserted}
use Rattle.spec_lists.specs.Sides.{Item, plain, changed, lone, sides}
use Rattle.gl_delta.specs.declared.part.Part.{Part}

-- the values of those elements that have an equal partner
abbrev pub plain_values : List Item → List Tree → List Tree
plain_values [] ys = []
plain_values (plain i ∷ xs) [] = []
plain_values (plain i ∷ xs) (y ∷ ys) = y ∷ plain_values xs ys
plain_values (changed i w ∷ xs) [] = []
plain_values (changed i w ∷ xs) (y ∷ ys) = plain_values xs ys
plain_values (lone w ∷ xs) [] = []
plain_values (lone w ∷ xs) (y ∷ ys) = plain_values xs ys

-- the new list below a place, then those from there on that are of a plain pair
abbrev pub part_of : List Piece → ℕ → List Tree → List Tree
part_of ps upto ys = take upto ys ++ plain_values (drop upto (sides ps).new) (drop upto ys)

-- the elements of a part, over those of the shelf that it reads
abbrev pub part_items : {S : Type 0} → (S → List Tree) → Part S → List Tree
part_items items p = part_of p.delta.now.pieces p.upto (items p.new.now)

-- of [5, 7, 6, 9] where 5 and 9 were kept, 7 was updated and 6 inserted: all below 2, and 9
abbrev one_delta : List Piece
one_delta =
    kept ∷ updated (num (pos 8)) (num (pos 7)) ∷ deleted (num (pos 1)) ∷ inserted (num (pos 6))
    ∷ kept ∷ []

one_part : part_of one_delta 2 (num (pos 5) ∷ num (pos 7) ∷ num (pos 6) ∷ num (pos 9) ∷ [])
    ≡ num (pos 5) ∷ num (pos 7) ∷ num (pos 9) ∷ []
one_part = refl

-- how many elements have an equal partner
abbrev pub plain_len : List Item → ℕ
plain_len [] = 0
plain_len (plain i ∷ xs) = suc (plain_len xs)
plain_len (changed i w ∷ xs) = plain_len xs
plain_len (lone w ∷ xs) = plain_len xs

-- the place of an element by its number among those that have an equal partner
abbrev pub plain_position : List Item → ℕ → Option ℕ
plain_position [] k = None
plain_position (plain i ∷ xs) zero = Some 0
plain_position (plain i ∷ xs) (suc k) = option_map suc (plain_position xs k)
plain_position (changed i w ∷ xs) k = option_map suc (plain_position xs k)
plain_position (lone w ∷ xs) k = option_map suc (plain_position xs k)
