-- What becomes of a change where a list shows some elements of its input, in their order.
use Rattle.std.specs.Prelude.{ℕ, suc, Bool, true, false, List, [], ◌∷◌}
use Rattle.spec_value.specs.Tree.{Tree}
use Rattle.spec_lists.specs.Piece.{Piece, kept, updated, deleted, inserted, normal}

-- which elements are shown, by their place and value
abbrev pub Choice : Type 0
Choice = ℕ → Tree → Bool

-- the elements that are shown, the first of which stands at this place
abbrev pub chosen_from : Choice → ℕ → List Tree → List Tree
chosen_from shows i [] = []
chosen_from shows i (x ∷ xs) = if_shown (shows i x) x (chosen_from shows (suc i) xs)
  where
    if_shown : Bool → Tree → List Tree → List Tree
    if_shown true x rest = x ∷ rest
    if_shown false x rest = rest

abbrev pub chosen : Choice → List Tree → List Tree
chosen shows xs = chosen_from shows 0 xs

-- What is told of a pair, by whether its old element was shown and whether its new one is: both, and it stays the pair
-- that it is; the old one alone, and that is deleted; the new one alone, and that is inserted; or nothing.
abbrev pub told_of_pair : Bool → Bool → Piece → Tree → Tree → List Piece → List Piece
told_of_pair true true pair x y rest = pair ∷ rest
told_of_pair true false pair x y rest = deleted x ∷ rest
told_of_pair false true pair x y rest = inserted y ∷ rest
told_of_pair false false pair x y rest = rest

abbrev pub told_of_old : Bool → Tree → List Piece → List Piece
told_of_old true x rest = deleted x ∷ rest
told_of_old false x rest = rest

abbrev pub told_of_new : Bool → Tree → List Piece → List Piece
told_of_new true y rest = inserted y ∷ rest
told_of_new false y rest = rest

-- What the pieces of the input's change come to, after i old and j new elements. The list xs is what the old input has
-- from there on, since a kept piece doesn't say its value.
abbrev pub told_from : Choice → Choice → ℕ → ℕ → List Tree → List Piece → List Piece
told_from before after i j xs [] = []
told_from before after i j [] (kept ∷ ps) = []
told_from before after i j (x ∷ xs) (kept ∷ ps) =
    told_of_pair (before i x) (after j x) kept x x (told_from before after (suc i) (suc j) xs ps)
told_from before after i j [] (updated v w ∷ ps) = []
told_from before after i j (x ∷ xs) (updated v w ∷ ps) =
    told_of_pair (before i v) (after j w) (updated v w) v w
    (told_from before after (suc i) (suc j) xs ps)
told_from before after i j [] (deleted v ∷ ps) = []
told_from before after i j (x ∷ xs) (deleted v ∷ ps) =
    told_of_old (before i v) v (told_from before after (suc i) j xs ps)
told_from before after i j xs (inserted w ∷ ps) =
    told_of_new (after j w) w (told_from before after i (suc j) xs ps)

-- The change of the list, where the input changes by these pieces from these elements, and the choice before and after may
-- differ: each pair of which both elements are shown stays a pair, plain or updated as it is, and no other is one.
abbrev pub follow_chosen : Choice → Choice → List Tree → List Piece → List Piece
follow_chosen before after xs ps = normal (told_from before after 0 0 xs ps)
