-- A function list shows a function of each element of its input.
use Rattle.std.specs.Prelude.{List, map}
use Rattle.spec_value.specs.Tree.{Tree}
use Rattle.spec_lists.specs.Piece.{Piece, kept, updated, deleted, inserted}

abbrev pub function_view : (Tree → Tree) → List Tree → List Tree
function_view f xs = map f xs

-- what a piece of the input's change comes to
abbrev pub function_piece : (Tree → Tree) → Piece → Piece
function_piece f kept = kept
function_piece f (updated v w) = updated (f v) (f w)
function_piece f (deleted v) = deleted (f v)
function_piece f (inserted w) = inserted (f w)

-- the change of a function list whose input changes by these pieces: its pairs are the input's
abbrev pub function_follow : (Tree → Tree) → List Piece → List Piece
function_follow f ps = map (function_piece f) ps

-- the change of a function list that gets another function: each element is updated
abbrev pub function_change : (Tree → Tree) → (Tree → Tree) → List Tree → List Piece
function_change before after xs = map (λ x. updated (before x) (after x)) xs
