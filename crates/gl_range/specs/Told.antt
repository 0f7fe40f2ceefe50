-- What a range tells of its input's pieces, where the values of kept elements are read from the new input.
use Rattle.std.specs.Prelude.{◌≡◌, ℕ, zero, suc, ◌+◌, ◌<◌, ◌&&◌, nat_le, nat_lt, pos, Bool, List, [], ◌∷◌, get_or}
use Rattle.spec_views.specs.Tree.{Tree, num}
use Rattle.spec_views.specs.Piece.{Piece, kept, updated, deleted, inserted}
use Rattle.spec_views.specs.Chosen.{told_of_pair, told_of_old, told_of_new}
use Rattle.gl_range.specs.declared.slice.Slice.{Slice}
use Rattle.gl_range.specs.declared.follow.Slices.{Slices}

-- whether a place is in the slice
abbrev pub shows : Slice → ℕ → Bool
shows slice position = nat_le slice.start position && nat_lt position slice.end

-- so many places from one on are all in the slice, or all out of it
abbrev pub AreAlike : Slice → ℕ → ℕ → Type 0
AreAlike slice position n = (k : ℕ) → k < n → shows slice (position + k) ≡ shows slice position

-- the element at a place that a list has
abbrev pub value_at : List Tree → ℕ → Tree
value_at ys j = get_or ys j (num (pos 0))

-- what these pieces of the input's change come to, after i old and j new elements, where the new input is ys
abbrev pub told_in : List Tree → Slices → ℕ → ℕ → List Piece → List Piece
told_in ys slices i j [] = []
told_in ys slices i j (kept ∷ ps) =
    told_of_pair (shows slices.was i) (shows slices.is j) kept (value_at ys j) (value_at ys j)
    (told_in ys slices (suc i) (suc j) ps)
told_in ys slices i j (updated v w ∷ ps) =
    told_of_pair (shows slices.was i) (shows slices.is j) (updated v w) v w
    (told_in ys slices (suc i) (suc j) ps)
told_in ys slices i j (deleted v ∷ ps) =
    told_of_old (shows slices.was i) v (told_in ys slices (suc i) j ps)
told_in ys slices i j (inserted w ∷ ps) =
    told_of_new (shows slices.is j) w (told_in ys slices i (suc j) ps)

-- and so many kept elements from place j on that all were shown or hidden, and all are
abbrev pub told_alike : List Tree → Bool → Bool → ℕ → ℕ → List Piece
told_alike ys was is j zero = []
told_alike ys was is j (suc n) =
    told_of_pair was is kept (value_at ys j) (value_at ys j) (told_alike ys was is (suc j) n)
