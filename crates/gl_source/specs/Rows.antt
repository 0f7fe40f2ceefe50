-- Small cases of the edits, worked out.
use Rattle.std.specs.Prelude.{◌≡◌, pos, List, [], ◌∷◌, refl}
use Rattle.spec_value.specs.Tree.{Tree, num}
use Rattle.spec_lists.specs.Piece.{kept, updated, deleted, inserted}
use Rattle.gl_source.specs.declared.edit.Edit.TheVariants.{Append, Insert, Set, Remove, Clear}
use Rattle.gl_source.specs.Edits.{edited, told}

abbrev five_nine : List Tree
five_nine = num (pos 5) ∷ num (pos 9) ∷ []

appends : told (Append (num (pos 1) ∷ num (pos 2) ∷ [])) five_nine
    ≡ kept ∷ kept ∷ inserted (num (pos 1)) ∷ inserted (num (pos 2)) ∷ []
appends = refl

inserts_at_the_end : edited (Insert 2 (num (pos 1))) five_nine
    ≡ num (pos 5) ∷ num (pos 9) ∷ num (pos 1) ∷ []
inserts_at_the_end = refl

inserts_before : told (Insert 1 (num (pos 1))) five_nine ≡ kept ∷ inserted (num (pos 1)) ∷ kept ∷ []
inserts_before = refl

-- an equal value is told too
sets : told (Set 1 (num (pos 9))) five_nine ≡ kept ∷ updated (num (pos 9)) (num (pos 9)) ∷ []
sets = refl

removes : told (Remove 0) five_nine ≡ deleted (num (pos 5)) ∷ kept ∷ []
removes = refl

clears : told Clear five_nine ≡ deleted (num (pos 5)) ∷ deleted (num (pos 9)) ∷ []
clears = refl
