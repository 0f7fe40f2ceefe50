-- What a unique list and a grouping tell of a touched key.
use Rattle.std.specs.Prelude.{◌==◌, ℕ, Bool, false, List, if◌then◌else◌, Option, Some, None}
use Rattle.spec_value.specs.Tree.{Tree}
use Rattle.spec_lists.specs.Piece.{Piece, kept, updated, deleted, inserted}
use Rattle.spec_views.specs.Source.{element_at}
use Rattle.spec_classes.specs.declared.First.{First}
use Rattle.spec_classes.specs.declared.First.TheVariants.{Gone, Plain}
use Rattle.spec_classes.specs.declared.OldClass.{OldClass}
use Rattle.spec_classes.specs.declared.NewClass.{NewClass}
use Rattle.spec_classes.specs.declared.Slot.{Slot}

-- the element that a class of the old list showed
abbrev pub first_value : List Tree → List Tree → First → Tree
first_value xs ys (Gone i) = element_at xs i
first_value xs ys (Plain j) = element_at ys j

-- whether it is of a plain pair with this element of the new list
abbrev pub is_still : First → ℕ → Bool
is_still (Gone i) j = false
is_still (Plain k) j = k == j

-- What a unique list tells of a touched key: its shown element is kept exactly where it is of a plain pair with the one
-- that is shown now.
abbrev pub unique_piece : List Tree → List Tree → Slot → Piece
unique_piece xs ys t = by t.old t.new
  where
    by : Option OldClass → Option NewClass → Piece
    by None None = kept
    by (Some c) None = deleted (first_value xs ys c.first)
    by None (Some e) = inserted (element_at ys e.first)
    by (Some c) (Some e) =
        if is_still c.first e.first then kept
        else updated (first_value xs ys c.first) (element_at ys e.first)

-- what a grouping tells of a touched key, where these were its groups and these are
abbrev pub group_piece : List Tree → List Tree → Slot → Piece
group_piece olds news t = by t.old t.new
  where
    by : Option OldClass → Option NewClass → Piece
    by None None = kept
    by (Some c) None = deleted (element_at olds c.index)
    by None (Some e) = inserted (element_at news e.index)
    by (Some c) (Some e) = updated (element_at olds c.index) (element_at news e.index)
