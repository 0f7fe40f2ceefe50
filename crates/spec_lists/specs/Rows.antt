-- Small cases of the definitions, worked out.
use Rattle.std.specs.Prelude.{◌≡◌, pos, List, [], ◌∷◌, refl}
use Rattle.spec_value.specs.Tree.{num}
use Rattle.spec_lists.specs.Piece.{Piece, deleted, inserted, identity}
use Rattle.spec_lists.specs.Delta.{composed, inverse, one_insert, one_set, one_remove}
use Rattle.spec_lists.specs.Cells.{cells_of, keep, update, delete, insert}
use Rattle.spec_lists.specs.Changes.{changes, replay, insertion, delete as delete_at, update as update_at}

-- over [7, 9]: the first element removed, then 8 inserted in front
abbrev renewed : List Piece
renewed =
    composed (composed (identity 2) (one_remove 2 0 (num (pos 7)))) (one_insert 1 0 (num (pos 8)))

renewed_cells : cells_of renewed ≡ delete (num (pos 7)) ∷ insert (num (pos 8)) ∷ keep 1 ∷ []
renewed_cells = refl

-- a deletion and an insertion at one place are no update
renewed_changes : changes renewed ≡ delete_at 0 (num (pos 7)) ∷ insertion 0 (num (pos 8)) ∷ []
renewed_changes = refl

renewed_back : cells_of (inverse renewed)
    ≡ delete (num (pos 8)) ∷ insert (num (pos 7)) ∷ keep 1 ∷ []
renewed_back = refl

-- there and back is no identity, since the first element was deleted
there_and_back : cells_of (composed renewed (inverse renewed))
    ≡ delete (num (pos 7)) ∷ insert (num (pos 7)) ∷ keep 1 ∷ []
there_and_back = refl

one_update : cells_of (composed (identity 2) (one_set 2 1 (num (pos 5)) (num (pos 6))))
    ≡ keep 1 ∷ update (num (pos 5)) (num (pos 6)) ∷ []
one_update = refl

-- an insertion that is taken back leaves the identity of the empty list
taken_back : composed (composed (identity 0) (one_insert 0 0 (num (pos 5))))
    (one_remove 1 0 (num (pos 5))) ≡ identity 0
taken_back = refl

-- two updates of one element are one, from the first value to the last
twice : changes
    (composed (composed (identity 1) (one_set 1 0 (num (pos 1)) (num (pos 2))))
    (one_set 1 0 (num (pos 2)) (num (pos 3)))) ≡ update_at 0 (num (pos 1)) (num (pos 3)) ∷ []
twice = refl

-- an updated element that is removed was deleted with its first value
updated_and_removed : changes
    (composed (composed (identity 1) (one_set 1 0 (num (pos 3)) (num (pos 4))))
    (one_remove 1 0 (num (pos 4)))) ≡ delete_at 0 (num (pos 3)) ∷ []
updated_and_removed = refl

-- two deletions have one index, since the second element moves up
abbrev pub two_for_one : List Piece
two_for_one = deleted (num (pos 4)) ∷ deleted (num (pos 5)) ∷ inserted (num (pos 1)) ∷ []

two_for_one_changes : changes two_for_one
    ≡ delete_at 0 (num (pos 4)) ∷ delete_at 0 (num (pos 5)) ∷ insertion 0 (num (pos 1)) ∷ []
two_for_one_changes = refl

two_for_one_replayed : replay (changes two_for_one) (num (pos 4) ∷ num (pos 5) ∷ [])
    ≡ num (pos 1) ∷ []
two_for_one_replayed = refl
