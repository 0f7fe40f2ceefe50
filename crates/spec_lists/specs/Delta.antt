-- Deltas as their pieces: composition, inverse, and the delta of one change.
use Rattle.std.specs.Prelude.{ℕ, suc, ◌-◌, ◌==◌, ◌++◌, Bool, List, ◌∷◌}
use Rattle.spec_value.specs.Tree.{Tree}
use Rattle.spec_lists.specs.Piece.{Piece, updated, deleted, inserted, identity}
use Rattle.spec_lists.specs.Sides.{sides, compose, swapped, pieces_of}
use Rattle.spec_lists.specs.Changes.{changed_len}

-- a delta between two lists, told from left to right by its pieces
abbrev pub Delta : Type 0
Delta = List Piece

-- the delta of a list of n elements that stays as it is
abbrev pub no_change : ℕ → Delta
no_change n = identity n

-- whether a delta is the identity: nothing is updated, deleted or inserted
abbrev pub is_identity : Delta → Bool
is_identity d = changed_len d == 0

-- First p, then q: (i, k) is a pair where (i, j) and (j, k) are, updated where either is; an old element of p without
-- a pair in both is deleted, a new element of q without one is inserted.
abbrev pub composed : Delta → Delta → Delta
composed p q = pieces_of (compose (sides p) (sides q))

-- the delta from the new list to the old one, its pairs turned round
abbrev pub inverse : Delta → Delta
inverse p = pieces_of (swapped (sides p))

-- a value inserted at a place of a list of n elements
abbrev pub one_insert : ℕ → ℕ → Tree → Delta
one_insert n at v = identity at ++ inserted v ∷ identity (n - at)

-- the value at a place of a list of n elements, updated
abbrev pub one_set : ℕ → ℕ → Tree → Tree → Delta
one_set n at v w = identity at ++ updated v w ∷ identity (n - suc at)

-- the value at a place of a list of n elements, removed
abbrev pub one_remove : ℕ → ℕ → Tree → Delta
one_remove n at v = identity at ++ deleted v ∷ identity (n - suc at)
