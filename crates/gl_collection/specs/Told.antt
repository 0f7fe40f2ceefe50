-- What a collection tells of its input's pieces, where it keeps how many children each old element has.
use Rattle.std.specs.Prelude.{◌+◌, ◌++◌, ℕ, List, [], ◌∷◌, map, drop, length, get_or}
use Rattle.gl_joined.specs.Tree.{Tree}
use Rattle.gl_joined.specs.Piece.{Piece, kept, updated, deleted, inserted, identity}

-- how many children an element has
abbrev pub child_len : (Tree → List Tree) → Tree → ℕ
child_len children x = length (children x)

-- the children of an updated element: as many as it had and has are updated, the others are deleted or inserted
abbrev pub child_updates : List Tree → List Tree → List Piece
child_updates [] ys = map inserted ys
child_updates (x ∷ xs) [] = map deleted (x ∷ xs)
child_updates (x ∷ xs) (y ∷ ys) = updated x y ∷ child_updates xs ys

-- what these pieces of the input's change come to, where the old elements that they speak of have so many children each
abbrev pub told_children : (Tree → List Tree) → List ℕ → List Piece → List Piece
told_children children lens [] = []
told_children children lens (kept ∷ ps) =
    identity (get_or lens 0 0) ++ told_children children (drop 1 lens) ps
told_children children lens (updated v w ∷ ps) =
    child_updates (children v) (children w) ++ told_children children (drop 1 lens) ps
told_children children lens (deleted v ∷ ps) =
    map deleted (children v) ++ told_children children (drop 1 lens) ps
told_children children lens (inserted w ∷ ps) =
    map inserted (children w) ++ told_children children lens ps

-- how many children come with these pieces, and how many go
abbrev pub gained : (Tree → List Tree) → List Piece → ℕ
gained children [] = 0
gained children (kept ∷ ps) = gained children ps
gained children (updated v w ∷ ps) = length (children w) + gained children ps
gained children (deleted v ∷ ps) = gained children ps
gained children (inserted w ∷ ps) = length (children w) + gained children ps

abbrev pub lost : (Tree → List Tree) → List Piece → ℕ
lost children [] = 0
lost children (kept ∷ ps) = lost children ps
lost children (updated v w ∷ ps) = length (children v) + lost children ps
lost children (deleted v ∷ ps) = length (children v) + lost children ps
lost children (inserted w ∷ ps) = lost children ps
