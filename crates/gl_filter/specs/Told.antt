-- What is told by the marks that a filter keeps, and how often it asks its matcher.
use Rattle.std.specs.Prelude.{◌≡◌, ℕ, suc, ◌+◌, ◌-◌, ◌<◌, ◌≤◌, Bool, true, false, cond, List, [], ◌∷◌, length, take, drop, Option, Some, None}
use Rattle.spec_views.specs.Tree.{Tree}
use Rattle.spec_views.specs.Piece.{Piece, kept, updated, deleted, inserted}
use Rattle.spec_views.specs.EditKind.{EditKind}
use Rattle.spec_views.specs.EditKind.TheVariants as kind_is
use Rattle.gl_barcode.specs.Bars.{count_shown}
use Rattle.gl_kernel.specs.Fates.{Fate, stays, becomes, goes, comes}
use Rattle.spec_views.specs.Chosen.{told_of_pair, told_of_old, told_of_new}

abbrev pub told_kept : Bool → List Piece → List Piece
told_kept true rest = kept ∷ rest
told_kept false rest = rest

-- what the pieces of the input's change come to, where these marks say which old elements are shown
abbrev pub told_marks : (Tree → Bool) → List Bool → List Piece → List Piece
told_marks accepts bs [] = []
told_marks accepts [] (kept ∷ ps) = []
told_marks accepts (b ∷ bs) (kept ∷ ps) = told_kept b (told_marks accepts bs ps)
told_marks accepts [] (updated v w ∷ ps) = []
told_marks accepts (b ∷ bs) (updated v w ∷ ps) =
    told_of_pair b (accepts w) (updated v w) v w (told_marks accepts bs ps)
told_marks accepts [] (deleted v ∷ ps) = []
told_marks accepts (b ∷ bs) (deleted v ∷ ps) = told_of_old b v (told_marks accepts bs ps)
told_marks accepts bs (inserted w ∷ ps) = told_of_new (accepts w) w (told_marks accepts bs ps)

-- what becomes of a mark
abbrev pub switch : Bool → Bool → Fate Bool
switch true true = stays
switch true false = becomes false
switch false true = becomes true
switch false false = stays

-- what becomes of the marks, by the pieces of the input's change: one is set only where it is another one
abbrev pub fates : (Tree → Bool) → List Bool → List Piece → List (Fate Bool)
fates accepts bs [] = []
fates accepts [] (kept ∷ ps) = []
fates accepts (b ∷ bs) (kept ∷ ps) = stays ∷ fates accepts bs ps
fates accepts [] (updated v w ∷ ps) = []
fates accepts (b ∷ bs) (updated v w ∷ ps) = switch b (accepts w) ∷ fates accepts bs ps
fates accepts [] (deleted v ∷ ps) = []
fates accepts (b ∷ bs) (deleted v ∷ ps) = goes ∷ fates accepts bs ps
fates accepts bs (inserted w ∷ ps) = comes (accepts w) ∷ fates accepts bs ps

-- the matcher is asked once for each updated and for each inserted element
abbrev pub asked : List Piece → ℕ
asked [] = 0
asked (kept ∷ ps) = asked ps
asked (updated v w ∷ ps) = suc (asked ps)
asked (deleted v ∷ ps) = asked ps
asked (inserted w ∷ ps) = suc (asked ps)

-- what is told of elements that stay, under another matcher
abbrev pub told_change : (Tree → Bool) → (Tree → Bool) → List Tree → List Piece
told_change before after [] = []
told_change before after (x ∷ xs) =
    told_of_pair (before x) (after x) kept x x (told_change before after xs)

-- what becomes of the marks under another matcher
abbrev pub switches : (Tree → Bool) → (Tree → Bool) → List Tree → List (Fate Bool)
switches before after [] = []
switches before after (x ∷ xs) = switch (before x) (after x) ∷ switches before after xs

-- what a kind of change says of one element that was shown or not, and now is or isn't
abbrev pub SaysHere : EditKind → Bool → Bool → Type 0
SaysHere kind_is.All was now = now ≡ true
SaysHere kind_is.Nothing was now = now ≡ false
SaysHere kind_is.Constrained was now = now ≡ true → was ≡ true
SaysHere kind_is.Relaxed was now = was ≡ true → now ≡ true
SaysHere kind_is.Changed was now = Unit {0}

-- whether the matcher is asked about it
abbrev pub question : EditKind → Bool → ℕ
question kind_is.All was = 0
question kind_is.Nothing was = 0
question kind_is.Constrained was = cond was 1 0
question kind_is.Relaxed was = cond was 0 1
question kind_is.Changed was = 1

abbrev pub questions : EditKind → List Bool → ℕ
questions kind [] = 0
questions kind (b ∷ bs) = question kind b + questions kind bs

-- the matcher is asked about nothing, about what is shown, about what is hidden, or about everything
abbrev pub change_cost : EditKind → List Bool → ℕ
change_cost kind_is.All bs = 0
change_cost kind_is.Nothing bs = 0
change_cost kind_is.Constrained bs = count_shown bs
change_cost kind_is.Relaxed bs = length bs - count_shown bs
change_cost kind_is.Changed bs = length bs

-- the mark of the elements that a kind of change leaves as they are, if there is one
abbrev pub left_mark : EditKind → Option Bool
left_mark kind_is.All = Some true
left_mark kind_is.Nothing = Some false
left_mark kind_is.Constrained = Some false
left_mark kind_is.Relaxed = Some true
left_mark kind_is.Changed = None

-- these marks are all this one
abbrev pub AreAll : Option Bool → List Bool → Type 0
AreAll mark [] = Unit {0}
AreAll mark (b ∷ bs) = (mark ≡ Some b) × AreAll mark bs

-- how many of so many elements with this mark are shown
abbrev pub shown_among : Option Bool → ℕ → ℕ
shown_among (Some true) n = n
shown_among (Some false) n = 0
shown_among None n = 0

-- after this place the next one without this mark
pub record IsNext (mark : Option Bool) (bs : List Bool) (position at : ℕ) : Type 0 where
  pub from : position ≤ at
  pub within : at < length bs
  pub between : AreAll mark (take (at - position) (drop position bs))
