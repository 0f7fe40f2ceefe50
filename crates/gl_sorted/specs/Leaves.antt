-- Which updated elements stay, by the two scans of a sorted list's code.
use Rattle.std.specs.Prelude.{◌&&◌, ◌<◌, ◌≤◌, ⊤, ℕ, Bool, List, [], ◌∷◌, length, map, min, max, nat_lt, nat_le, Option, Some, None, option_map}
use Rattle.std.specs.List.{All, Contains}
use Rattle.spec_sorting.specs.Sorted.{index_of}
use Rattle.spec_sorting.specs.Moves.{IsRising}
use Rattle.spec_sorting.specs.Ranked.{rank_kept}
use Rattle.gl_arranged.specs.declared.changed.Ranked.{Ranked}
use Rattle.gl_sorted.specs.declared.leaving.Leaving.{Leaving}

-- the sorted places of changed elements
abbrev pub ranks : List Ranked → List ℕ
ranks rs = map (λ r. r.place) rs

-- an element of the old list, where the elements of the new one stand so, and the changed ones of both at these places
abbrev pub leaving_of : List ℕ → List ℕ → List ℕ → Ranked → Leaving
leaving_of is gone came r = record {
  place = r.place;
  source = r.source;
  new = option_map (λ j. index_of j is) r.partner;
  stays = rank_kept gone came r.place (option_map (λ j. index_of j is) r.partner);
}

-- an element that stays only if a test holds too, which is about its new place
abbrev pub held : Leaving → Bool → Leaving
held l more = record { place = l.place; source = l.source; new = l.new; stays = l.stays && more }

-- the scan from the left, with the greatest new place so far
abbrev pub prefix_one : ℕ → Leaving → Option ℕ → Leaving
prefix_one greatest l None = l
prefix_one greatest l (Some new) = held l (nat_le greatest new)

abbrev pub greater : ℕ → Option ℕ → ℕ
greater greatest None = greatest
greater greatest (Some new) = max greatest new

abbrev pub prefix_scanned : ℕ → List Leaving → List Leaving
prefix_scanned greatest [] = []
prefix_scanned greatest (l ∷ ls) =
    prefix_one greatest l l.new ∷ prefix_scanned (greater greatest l.new) ls

-- the scan from the right, with the least new place so far; top, where there is none
abbrev pub back_one : ℕ → Leaving → Option ℕ → Leaving
back_one least l None = l
back_one least l (Some new) = held l (nat_lt new least)

abbrev pub lesser : ℕ → Option ℕ → ℕ
lesser least None = least
lesser least (Some new) = min new least

abbrev pub least_new : ℕ → List Leaving → ℕ
least_new top [] = top
least_new top (l ∷ ls) = lesser (least_new top ls) l.new

abbrev pub back_scanned : ℕ → List Leaving → List Leaving
back_scanned top [] = []
back_scanned top (l ∷ ls) = back_one (least_new top ls) l l.new ∷ back_scanned top ls

-- the deleted and updated elements, with whether they stay
abbrev pub settled : List ℕ → ℕ → List Ranked → List Ranked → List Leaving
settled is top gone came =
    back_scanned top (prefix_scanned 0 (map (leaving_of is (ranks gone) (ranks came)) gone))

-- an updated element's partner is one of a list's elements, and one of the changed ones
abbrev pub IsFound : List ℕ → List ℕ → Option ℕ → Type 0
IsFound is came None = ⊤
IsFound is came (Some j) = (j < length is) × Contains came (index_of j is)

-- the changed elements of the old and the new list by rising sorted places, where the elements of the new list stand so
pub record AreFound (is : List ℕ) (gone came : List Ranked) : Type 0 where
  pub gone_rise : IsRising 0 (ranks gone)
  pub came_rise : IsRising 0 (ranks came)
  pub partners : All (λ r. IsFound is (ranks came) r.partner) gone
  pub gone_few : All (λ r. r.place < 2147483647) gone
  pub few : length is ≤ 2147483647
  pub came_few : length came ≤ 2147483647
