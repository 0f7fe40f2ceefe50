-- The delta between two lists that has given pairs.
use Rattle.std.specs.Prelude.{⊤, ◌≡◌, ◌-◌, ◌++◌, ◌&&◌, ℕ, suc, Bool, true, false, List, [], ◌∷◌, map, take, drop, nat_le, if◌then◌else◌, Option, Some, None, slice_get}
use Rattle.std.specs.Ordering.{eq_by_cmp}
use Rattle.spec_value.specs.Tree.{Tree}
use Rattle.spec_value.specs.Order.{cmp}
use Rattle.spec_lists.specs.Piece.{Piece, kept, updated, deleted, inserted}
use Rattle.spec_lists.specs.Pairs.{Pair}
use Rattle.spec_lists.specs.Delta.{Delta}

-- all elements of the one list deleted, all of the other inserted: no pair
abbrev pub replaced : List Tree → List Tree → Delta
replaced xs ys = map deleted xs ++ map inserted ys

-- whether two values are equal
abbrev pub is_same : Tree → Tree → Bool
is_same x y = eq_by_cmp cmp x y

-- the piece of a pair of two elements; a plain one has equal values
abbrev pub piece_of : Bool → Option Tree → Option Tree → Option Piece
piece_of is_updated None new = None
piece_of is_updated (Some x) None = None
piece_of true (Some x) (Some y) = Some (updated x y)
piece_of false (Some x) (Some y) = if is_same x y then Some kept else None

-- the elements of two lists that stand from these places on
pub record Rest : Type 0 where
  pub old_position : ℕ
  pub new_position : ℕ
  pub old : List Tree
  pub new : List Tree

-- the piece of a pair, if both of its elements are left
abbrev pub next_piece : Rest → Pair → Option Piece
next_piece r p =
    if nat_le r.old_position p.old && nat_le r.new_position p.new
    then piece_of p.updated (slice_get r.old (p.old - r.old_position))
    (slice_get r.new (p.new - r.new_position))
    else None

-- what is told up to a pair and of it: elements before it without a pair are deleted, and inserted
abbrev pub told_to : Rest → Pair → Option Piece → Delta
told_to r p None = []
told_to r p (Some piece) =
    replaced (take (p.old - r.old_position) r.old) (take (p.new - r.new_position) r.new)
    ++ piece ∷ []

-- what is left after it
abbrev pub rest_after : Rest → Pair → Option Piece → Rest
rest_after r p None = r
rest_after r p (Some piece) = record {
  old_position = suc p.old;
  new_position = suc p.new;
  old = drop (suc (p.old - r.old_position)) r.old;
  new = drop (suc (p.new - r.new_position)) r.new;
}

abbrev pub pieces_from : Rest → List Pair → Delta
pieces_from r [] = replaced r.old r.new
pieces_from r (p ∷ ps) =
    told_to r p (next_piece r p) ++ pieces_from (rest_after r p (next_piece r p)) ps

-- The delta from the list xs to the list ys with these pairs, whose places rise on both sides. What can be no pair of a
-- delta, after those before it, is none of this one.
abbrev pub pieces_by : List Tree → List Tree → List Pair → Delta
pieces_by xs ys ps =
    pieces_from (record { old_position = 0; new_position = 0; old = xs; new = ys }) ps

-- these are pairs of the elements that are left: their places rise on both sides, and plain ones have equal values
abbrev pub ArePairs : Rest → List Pair → Type 0
ArePairs r [] = ⊤
ArePairs r (p ∷ ps) =
    (piece : Piece) × (next_piece r p ≡ Some piece) × ArePairs (rest_after r p (Some piece)) ps
