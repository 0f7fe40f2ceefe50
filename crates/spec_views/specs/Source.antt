-- A source shows the elements that it keeps: by each edit the list that comes of it, and what is told of it.
use Rattle.std.specs.Prelude.{ℕ, pos, List, [], ◌++◌, length, map, insert, remove, slice_set, slice_get, unwrap_or}
use Rattle.spec_value.specs.Tree.{Tree, num}
use Rattle.spec_lists.specs.Piece.{Piece, inserted, deleted, identity}
use Rattle.spec_lists.specs.Delta.{one_insert, one_set, one_remove}

-- the element at a place; past the end the number 0
abbrev pub element_at : List Tree → ℕ → Tree
element_at xs index = unwrap_or (slice_get xs index) (num (pos 0))

-- more elements at the end
abbrev pub appended : List Tree → List Tree → List Tree
appended xs values = xs ++ values

abbrev pub append_told : List Tree → List Tree → List Piece
append_told xs values = identity (length xs) ++ map inserted values

-- an element put in at a place
abbrev pub put_in : List Tree → ℕ → Tree → List Tree
put_in xs index value = insert xs index value

abbrev pub put_in_told : List Tree → ℕ → Tree → List Piece
put_in_told xs index value = one_insert (length xs) index value

-- another element put instead of the one at a place, which is told as updated, even if it is equal
abbrev pub put_instead : List Tree → ℕ → Tree → List Tree
put_instead xs index value = slice_set xs index value

abbrev pub put_instead_told : List Tree → ℕ → Tree → List Piece
put_instead_told xs index value = one_set (length xs) index (element_at xs index) value

-- the element at a place taken out
abbrev pub taken_out : List Tree → ℕ → List Tree
taken_out xs index = remove xs index

abbrev pub taken_out_told : List Tree → ℕ → List Piece
taken_out_told xs index = one_remove (length xs) index (element_at xs index)

-- all elements taken out
abbrev pub cleared : List Tree → List Tree
cleared xs = []

abbrev pub clear_told : List Tree → List Piece
clear_told xs = map deleted xs
