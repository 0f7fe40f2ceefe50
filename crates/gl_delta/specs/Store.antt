-- How pieces are stored: a colour for each piece, and beside the colours the old and the new values that pieces tell, each
-- in order. Between two pairs the values don't depend on the order of deletions and insertions.
use Rattle.std.specs.Prelude.{◌≡◌, ◌*◌, ◌-◌, ◌≤◌, ◌++◌, ℕ, suc, pos, List, [], ◌∷◌, map, take, drop, refl}
use Rattle.std.proofs.Common.{zero}
use Rattle.spec_value.specs.Tree.{Tree, num}
use Rattle.spec_lists.specs.Piece.{Piece, kept, updated, deleted, inserted, inverted}
use Rattle.spec_lists.specs.Changes.{changed_len}
use Rattle.gl_fourcolour.specs.Colours.{Colours}
use Rattle.gl_delta.specs.Listed.{Listed}
use Rattle.gl_delta.specs.declared.mark.Side.{Side}
use Rattle.gl_delta.specs.declared.mark.Side.TheVariants.{Old, New}
use Rattle.gl_delta.specs.declared.mark.Kind.{Kind}
use Rattle.gl_delta.specs.declared.mark.Kind.TheVariants as kind

abbrev pub colour_of : Piece → ℕ
colour_of kept = 0
colour_of (updated v w) = 1
colour_of (deleted v) = 2
colour_of (inserted w) = 3

abbrev pub kind_by : ℕ → Kind
kind_by zero = kind.Kept
kind_by (suc zero) = kind.Updated
kind_by (suc (suc zero)) = kind.Deleted
kind_by (suc (suc (suc n))) = kind.Inserted

-- the set of the colours of the pieces that are elements of a list
abbrev pub mask_of : Side → ℕ
mask_of Old = 7
mask_of New = 11

-- the old value that a piece tells, if it tells one
abbrev pub told_old : Piece → List Tree
told_old kept = []
told_old (updated v w) = v ∷ []
told_old (deleted v) = v ∷ []
told_old (inserted w) = []

-- the new one
abbrev pub told_new : Piece → List Tree
told_new p = told_old (inverted p)

abbrev pub old_values : List Piece → List Tree
old_values [] = []
old_values (p ∷ ps) = told_old p ++ old_values ps

abbrev pub new_values : List Piece → List Tree
new_values ps = old_values (map inverted ps)

-- how many old or new values a piece of this kind tells
abbrev pub told_count : Side → Kind → ℕ
told_count Old kind.Kept = 0
told_count Old kind.Updated = 1
told_count Old kind.Deleted = 1
told_count Old kind.Inserted = 0
told_count New kind.Kept = 0
told_count New kind.Updated = 1
told_count New kind.Deleted = 0
told_count New kind.Inserted = 1

-- values put in at a place
abbrev pub spliced : List Tree → ℕ → List Tree → List Tree
spliced vs at ws = take at vs ++ (ws ++ drop at vs)

-- the pieces of these colours, that tell these old and new values
abbrev pub told_by : List ℕ → List Tree → List Tree → List Piece
told_by [] vs ws = []
told_by (zero ∷ cs) vs ws = kept ∷ told_by cs vs ws
told_by (suc zero ∷ cs) (v ∷ vs) (w ∷ ws) = updated v w ∷ told_by cs vs ws
told_by (suc (suc zero) ∷ cs) (v ∷ vs) ws = deleted v ∷ told_by cs vs ws
told_by (suc (suc (suc n)) ∷ cs) vs (w ∷ ws) = inserted w ∷ told_by cs vs ws
told_by _ _ _ = []

-- What a store keeps: the colours and values of pieces, and room for so many changed pieces, whatever they are. Pieces of
-- which n are changed have at most 2 n + 1 maximal runs of one colour.
pub record IsStored (colours : Colours) (olds news : Listed) (room : ℕ) (ps : List Piece) : Type 0
  where
    pub colours_are : colours.colours ≡ map colour_of ps
    pub olds_are : olds.values ≡ old_values ps
    pub news_are : news.values ≡ new_values ps
    pub old_room : room ≤ olds.room
    pub new_room : room ≤ news.room
    pub run_room : 2 * room ≤ colours.room - 1
    pub within : changed_len ps ≤ room

-- two pieces deleted and one inserted between an updated and a kept one
abbrev some : List Piece
some = updated (num (pos 1)) (num (pos 2)) ∷ deleted (num (pos 3)) ∷ deleted (num (pos 4))
    ∷ inserted (num (pos 5)) ∷ kept ∷ []

some_told : told_by (1 ∷ 2 ∷ 2 ∷ 3 ∷ 0 ∷ []) (num (pos 1) ∷ num (pos 3) ∷ num (pos 4) ∷ [])
    (num (pos 2) ∷ num (pos 5) ∷ []) ≡ some
some_told = refl

some_colours : map colour_of some ≡ 1 ∷ 2 ∷ 2 ∷ 3 ∷ 0 ∷ []
some_colours = refl

some_olds : old_values some ≡ num (pos 1) ∷ num (pos 3) ∷ num (pos 4) ∷ []
some_olds = refl

some_news : new_values some ≡ num (pos 2) ∷ num (pos 5) ∷ []
some_news = refl
