-- The changed elements of both lists in sorted order, each with its partner, and the scans over them.
use Rattle.std.specs.Prelude.{◌≡◌, ◌==◌, ◌&&◌, ◌<◌, ℕ, suc, Bool, true, false, List, [], ◌∷◌, map, min, max, nat_lt, nat_le, Option, Some, None, option_map}
use Rattle.std.specs.List.{list_all, list_any}
use Rattle.std.specs.List.Sorted.{IsPermutation}
use Rattle.spec_value.specs.Tree.{Tree}
use Rattle.spec_lists.specs.Piece.{Piece, kept, updated, deleted, inserted}
use Rattle.spec_lists.specs.Pairs.{Pair}
use Rattle.spec_lists.specs.Delta.{Delta}
use Rattle.spec_lists.specs.Leads.{applied}
use Rattle.spec_views.specs.Arrangement.{Comparison}
use Rattle.spec_sorting.specs.Moves.{IsRising, sorted_position, keeps_rank, keeps_side, both_flags}
use Rattle.spec_sorting.specs.Merged.{Spot}

-- a changed element of a list, and where its partner stands in the other one, if it is of an updated pair
pub record Change : Type 0 where
  pub source : ℕ
  pub partner : Option ℕ

-- the deleted and updated old elements of these pieces, before which i old and j new elements stand
abbrev pub old_changes : ℕ → ℕ → List Piece → List Change
old_changes i j [] = []
old_changes i j (kept ∷ ps) = old_changes (suc i) (suc j) ps
old_changes i j (updated v w ∷ ps) =
    record { source = i; partner = Some j } ∷ old_changes (suc i) (suc j) ps
old_changes i j (deleted v ∷ ps) = record { source = i; partner = None } ∷ old_changes (suc i) j ps
old_changes i j (inserted w ∷ ps) = old_changes i (suc j) ps

-- and the inserted and updated new ones
abbrev pub new_changes : ℕ → ℕ → List Piece → List Change
new_changes i j [] = []
new_changes i j (kept ∷ ps) = new_changes (suc i) (suc j) ps
new_changes i j (updated v w ∷ ps) =
    record { source = j; partner = Some i } ∷ new_changes (suc i) (suc j) ps
new_changes i j (deleted v ∷ ps) = new_changes (suc i) j ps
new_changes i j (inserted w ∷ ps) = record { source = j; partner = None } ∷ new_changes i (suc j) ps

-- whether a changed element of the old list is of an updated pair that stays, and one of the new list
abbrev pub old_stays : (Pair → Bool) → Change → Bool
old_stays stay c = by c.partner
  where
    by : Option ℕ → Bool
    by None = false
    by (Some j) = stay (record { old = c.source; new = j; updated = true })

abbrev pub new_stays : (Pair → Bool) → Change → Bool
new_stays stay c = by c.partner
  where
    by : Option ℕ → Bool
    by None = false
    by (Some i) = stay (record { old = i; new = c.source; updated = true })

-- Items of any kind are these changed elements by their places in sorted order, where `unordered` has them in source order.
pub record AreRanked {R : Type 0} (rank : R → ℕ) (change : R → Change) (place : ℕ → ℕ)
    (changes : List Change) (unordered ranked : List R) : Type 0 where
  pub changes_are : map change unordered ≡ changes
  pub ranks_are : map rank unordered ≡ map (λ c. place c.source) changes
  pub same : IsPermutation unordered ranked
  pub rise : IsRising 0 (map rank ranked)

-- an updated element keeps its rank; a deleted one doesn't
abbrev pub rank_kept : List ℕ → List ℕ → ℕ → Option ℕ → Bool
rank_kept gone come old None = false
rank_kept gone come old (Some new) =
    keeps_rank gone come (record { old = old; new = new; updated = true })

-- the scan from the left over the new places of updated elements, between which deleted ones stand
abbrev pub prefix_marks : ℕ → List (Option ℕ) → List Bool
prefix_marks greatest [] = []
prefix_marks greatest (None ∷ ns) = true ∷ prefix_marks greatest ns
prefix_marks greatest (Some b ∷ ns) = nat_le greatest b ∷ prefix_marks (max greatest b) ns

abbrev pub least_some : ℕ → List (Option ℕ) → ℕ
least_some top [] = top
least_some top (None ∷ ns) = least_some top ns
least_some top (Some b ∷ ns) = min b (least_some top ns)

-- the scan from the right
abbrev pub back_marks : ℕ → List (Option ℕ) → List Bool
back_marks top [] = []
back_marks top (None ∷ ns) = true ∷ back_marks top ns
back_marks top (Some b ∷ ns) = nat_lt b (least_some top ns) ∷ back_marks top ns

-- whether one of these places is this one
abbrev pub is_some_position : ℕ → Option ℕ → Bool
is_some_position place None = false
is_some_position place (Some b) = b == place

-- the changed elements of both lists, those of the old one and those of the new one, each in sorted order
pub record AreRankedBoth {R : Type 0} (rank : R → ℕ) (change : R → Change) (compare : Comparison)
    (xs : List Tree) (d : Delta) (gone come : List R) : Type 0 where
  pub old_unordered : List R
  pub new_unordered : List R
  pub old : AreRanked rank change (sorted_position compare xs) (old_changes 0 0 d) old_unordered
      gone
  pub new : AreRanked rank change (sorted_position compare (applied d xs)) (new_changes 0 0 d)
      new_unordered come
