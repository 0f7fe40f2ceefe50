-- What is told, from the changed elements in sorted order.
use Rattle.std.specs.Prelude.{◌≡◌, ◌&&◌, ◌<◌, ℕ, Bool, List, [], ◌∷◌, length, map, filter, if◌then◌else◌, Option, Some}
use Rattle.std.specs.List.{All, list_any}
use Rattle.spec_sorting.specs.Tree.{Tree}
use Rattle.spec_sorting.specs.Delta.{Delta}
use Rattle.spec_sorting.specs.Leads.{IsDelta}
use Rattle.spec_sorting.specs.Source.{element_at}
use Rattle.spec_sorting.specs.Merged.{Spot, between, AreAligned}
use Rattle.spec_sorting.specs.Ranked.{is_some_position}
use Rattle.gl_kernel.specs.Plans.{CanTell}
use Rattle.gl_arranged.specs.OldValues.{IsOldValue}
use Rattle.gl_arranged.specs.declared.changed.Ranked.{Ranked}
use Rattle.gl_sorted.specs.declared.leaving.Leaving.{Leaving}
use Rattle.gl_sorted.specs.Leaves.{ranks}

-- the elements of the old list that are changed
abbrev pub old_spot : List Tree → Leaving → Spot
old_spot xs l = record { place = l.place; value = element_at xs l.source; stays = l.stays }

-- whether the partner of one of these stays at a place
abbrev pub is_kept_at : List Leaving → ℕ → Bool
is_kept_at ls place = list_any (λ l. l.stays && is_some_position place l.new) ls

-- and of the new list
abbrev pub new_spot : List Leaving → List Tree → Ranked → Spot
new_spot ls ys r =
    record { place = r.place; value = element_at ys r.source; stays = is_kept_at ls r.place }

abbrev pub old_spots_of : List Tree → List Leaving → List Spot
old_spots_of xs ls = map (old_spot xs) ls

abbrev pub new_spots_of : List Leaving → List Tree → List Ranked → List Spot
new_spots_of ls ys rs = map (new_spot ls ys) rs

-- the new places of those that stay
abbrev pub kept_positions : List Leaving → List (Option ℕ)
kept_positions [] = []
kept_positions (l ∷ ls) = if l.stays then l.new ∷ kept_positions ls else kept_positions ls

-- the places of the new elements whose partners are among these
abbrev pub positions_kept : List Leaving → List ℕ → List ℕ
positions_kept all ns = filter (is_kept_at all) ns

-- What is left of the changed elements in sorted order, from these places on: they go together, and the updated pairs that
-- stay have one order on both sides.
pub record AreLeft (xs ys : List Tree) (all : List Leaving) (old : ℕ) (gone : List Leaving)
    (new : ℕ) (came : List Ranked) : Type 0 where
  pub aligned : AreAligned old (length xs) (old_spots_of xs gone) new (length ys)
      (new_spots_of all ys came)
  pub kept : kept_positions gone ≡ map Some (positions_kept all (ranks came))

-- what is told from these places on
abbrev pub merged_from : List Tree → List Tree → List Leaving → ℕ → List Leaving → ℕ → List Ranked
    → Delta
merged_from xs ys all old gone new came =
    between old (length xs) (old_spots_of xs gone) new (length ys) (new_spots_of all ys came)

-- what can be told from the changed elements of a delta
pub record CanMerge (d : Delta) (xs ys : List Tree) (gone : List Leaving)
    (came : List Ranked) : Type 0 where
  pub delta : IsDelta d xs ys
  pub left : AreLeft xs ys gone 0 gone 0 came
  pub can : CanTell (merged_from xs ys gone 0 gone 0 came) []
  pub old_sources : All (λ l. IsOldValue d l.source) gone
  pub new_sources : All (λ r. r.source < length ys) came
