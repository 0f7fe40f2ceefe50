-- Small cases of the definitions, worked out.
use Rattle.std.specs.Prelude.{◌≡◌, pos, List, [], ◌∷◌, Some, None, refl}
use Rattle.spec_states.specs.Tree.{Tree, num}
use Rattle.spec_lists.specs.Piece.{kept, updated, deleted, inserted}
use Rattle.spec_lists.specs.Delta.{Delta, no_change, one_insert, one_set, one_remove}
use Rattle.spec_states.specs.Shown.{undone_all}
use Rattle.spec_states.specs.Wave.{committed}
use Rattle.gl_held.specs.Levels.{followed, followed_since, told_at_commit, taken_back, held_len}

-- over a source of [1]: in a first level 2 is added, and in a second one within it the first element is set to 9
abbrev nested : List Delta
nested =
    followed (no_change 2 ∷ followed (no_change 1 ∷ []) (one_insert 1 1 (num (pos 2))))
    (one_set 2 0 (num (pos 1)) (num (pos 9)))

nested_levels : nested
    ≡ (updated (num (pos 1)) (num (pos 9)) ∷ kept ∷ []) ∷ (kept ∷ inserted (num (pos 2)) ∷ []) ∷ []
nested_levels = refl

-- one element is shown, which is what the source had first
nested_len : held_len nested ≡ Some 1
nested_len = refl

nested_shown : undone_all nested (num (pos 9) ∷ num (pos 2) ∷ []) ≡ num (pos 1) ∷ []
nested_shown = refl

-- a rollback takes back the set alone
nested_back : taken_back nested ≡ updated (num (pos 9)) (num (pos 1)) ∷ kept ∷ []
nested_back = refl

-- a commit of the second level tells nothing, and composes it into the first one
nested_told : told_at_commit nested ≡ None
nested_told = refl

nested_committed : committed nested
    ≡ (updated (num (pos 1)) (num (pos 9)) ∷ inserted (num (pos 2)) ∷ []) ∷ []
nested_committed = refl

-- and that of the first level tells what both did
outer_told : told_at_commit (committed nested)
    ≡ Some (updated (num (pos 1)) (num (pos 9)) ∷ inserted (num (pos 2)) ∷ [])
outer_told = refl

-- a list of [1, 2] is frozen: 3 is added, the first element is set to 5, and the second one removed
frozen : followed_since
    (followed_since (followed_since (Some (no_change 2)) (one_insert 2 2 (num (pos 3))))
    (one_set 3 0 (num (pos 1)) (num (pos 5)))) (one_remove 3 1 (num (pos 2)))
    ≡ Some (updated (num (pos 1)) (num (pos 5)) ∷ deleted (num (pos 2)) ∷ inserted (num (pos 3)) ∷ [])
frozen = refl
