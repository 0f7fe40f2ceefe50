-- What a composite tells of changes of its members.
use Rattle.std.specs.Prelude.{◌≡◌, ◌<◌, ◌++◌, ℕ, List, [], ◌∷◌, map, length, Option, Some, None, slice_index_or}
use Rattle.gl_joined.specs.Tree.{Tree}
use Rattle.gl_joined.specs.Piece.{old_len, new_len}
use Rattle.gl_joined.specs.Delta.{Delta, no_change}
use Rattle.gl_delta.specs.Model.{DeltaModel}
use Rattle.gl_kernel.specs.Fates.{Fate, stays, becomes}

-- the delta under a number; none put is the identity of a list of so many elements
abbrev pub put_or_same : Option DeltaModel → ℕ → Delta
put_or_same None len = no_change len
put_or_same (Some d) len = d.pieces

-- the change of a list of so many elements, by its number
abbrev pub told_of : List (Option DeltaModel) → ℕ → ℕ → Delta
told_of deltas list len = put_or_same (slice_index_or deltas list None) len

-- the changes of lists that show these elements
abbrev pub deltas_of : List (Option DeltaModel) → (ℕ → List Tree) → ℕ → Delta
deltas_of deltas shows list = told_of deltas list (length (shows list))

-- the changes of members that have so many elements each, side by side
abbrev pub told_by : List (Option DeltaModel) → List ℕ → List ℕ → Delta
told_by deltas [] lens = []
told_by deltas (list ∷ lists) [] = []
told_by deltas (list ∷ lists) (len ∷ lens) = told_of deltas list len ++ told_by deltas lists lens

-- there is a position for each member's number, and a delta that is put there has for its old side what the member has, at
-- every position of it
abbrev pub AreOf : List (Option DeltaModel) → List ℕ → List ℕ → Type 0
AreOf deltas [] lens = Unit {0}
AreOf deltas (list ∷ lists) [] = Unit {0}
AreOf deltas (list ∷ lists) (len ∷ lens) =
    (list < length deltas) × (old_len (told_of deltas list len) ≡ len) × AreOf deltas lists lens

-- how many elements each member then has
abbrev pub new_lens : List (Option DeltaModel) → List ℕ → List ℕ → List ℕ
new_lens deltas [] lens = []
new_lens deltas (list ∷ lists) [] = []
new_lens deltas (list ∷ lists) (len ∷ lens) =
    new_len (told_of deltas list len) ∷ new_lens deltas lists lens

-- what becomes of the length of a member
abbrev pub put_fate : Option DeltaModel → Fate ℕ
put_fate None = stays
put_fate (Some d) = becomes (new_len d.pieces)

abbrev pub fate_of : List (Option DeltaModel) → ℕ → Fate ℕ
fate_of deltas list = put_fate (slice_index_or deltas list None)

abbrev pub fates : List (Option DeltaModel) → List ℕ → List (Fate ℕ)
fates deltas lists = map (fate_of deltas) lists
