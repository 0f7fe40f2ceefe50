-- Small cases of the definitions, worked out, in the order of the numbers.
use Rattle.std.specs.Prelude.{◌≡◌, ℕ, pos, true, false, List, [], ◌∷◌, map, refl}
use Rattle.spec_value.specs.Tree.{Tree, num}
use Rattle.spec_value.specs.Order.{cmp}
use Rattle.spec_lists.specs.Piece.{kept, updated, deleted, inserted}
use Rattle.spec_lists.specs.Pairs.{Pair}
use Rattle.spec_lists.specs.Delta.{Delta}
use Rattle.spec_lists.specs.Leads.{applied}
use Rattle.spec_views.specs.Sorted.{sorted_follow}
use Rattle.spec_sorting.specs.Moves.{changed_olds, changed_news, sorted_position, uncrossed_flags, stay_flags}
use Rattle.spec_sorting.specs.Merged.{Spot, between}

abbrev n : ℕ → Tree
n k = num (pos k)

abbrev move : ℕ → ℕ → Pair
move a b = record { old = a; new = b; updated = true }

abbrev spot : ℕ → Tree → Spot
spot k v = record { place = k; value = v; stays = false }

abbrev staying : ℕ → Tree → Spot
staying k v = record { place = k; value = v; stays = true }

-- 1, 2 and 9, where 1 becomes 5 and 2 becomes 3: the two cross, and neither stays
abbrev three : List Tree
three = n 1 ∷ n 2 ∷ n 9 ∷ []

abbrev crossing : Delta
crossing = updated (n 1) (n 5) ∷ updated (n 2) (n 3) ∷ kept ∷ []

crossing_flags : stay_flags 3 (0 ∷ 1 ∷ []) (0 ∷ 1 ∷ []) (move 0 1 ∷ move 1 0 ∷ [])
    ≡ false ∷ false ∷ []
crossing_flags = refl

crossing_told : sorted_follow cmp three crossing
    ≡ between 0 3 (spot 0 (n 1) ∷ spot 1 (n 2) ∷ []) 0 3 (spot 0 (n 3) ∷ spot 1 (n 5) ∷ [])
crossing_told = refl

crossing_is : sorted_follow cmp three crossing
    ≡ deleted (n 1) ∷ deleted (n 2) ∷ inserted (n 3) ∷ inserted (n 5) ∷ kept ∷ []
crossing_is = refl

-- 1 becomes 4 and 2 becomes 6: they don't cross, and both stay
abbrev beside : Delta
beside = updated (n 1) (n 4) ∷ updated (n 2) (n 6) ∷ kept ∷ []

beside_flags : stay_flags 3 (0 ∷ 1 ∷ []) (0 ∷ 1 ∷ []) (move 0 0 ∷ move 1 1 ∷ []) ≡ true ∷ true ∷ []
beside_flags = refl

beside_told : sorted_follow cmp three beside
    ≡ between 0 3 (staying 0 (n 1) ∷ staying 1 (n 2) ∷ []) 0 3
    (staying 0 (n 4) ∷ staying 1 (n 6) ∷ [])
beside_told = refl

-- 30, 10, 50, 20 and 40, where 30 becomes 35 and stays, 10 goes to the end, 20 is deleted, and 15 is put in at the end
abbrev five : List Tree
five = n 30 ∷ n 10 ∷ n 50 ∷ n 20 ∷ n 40 ∷ []

abbrev mixed : Delta
mixed = updated (n 30) (n 35) ∷ updated (n 10) (n 60) ∷ kept ∷ deleted (n 20) ∷ kept
    ∷ inserted (n 15) ∷ []

-- sorted they are 10 20 30 40 50, and then 15 35 40 50 60
mixed_positions : (map (sorted_position cmp five) (changed_olds 0 mixed) ≡ 2 ∷ 0 ∷ 1 ∷ [])
    × (map (sorted_position cmp (applied mixed five)) (changed_news 0 mixed) ≡ 1 ∷ 4 ∷ 0 ∷ [])
mixed_positions = (refl, refl)

-- 10 has no plain one before it, and then two; 30 has none, and then none; but 10 passes 30
mixed_flags : stay_flags 5 (0 ∷ 1 ∷ 2 ∷ []) (0 ∷ 1 ∷ 4 ∷ []) (move 0 4 ∷ move 2 1 ∷ [])
    ≡ false ∷ false ∷ []
mixed_flags = refl

mixed_told : sorted_follow cmp five mixed
    ≡ between 0 5 (spot 0 (n 10) ∷ spot 1 (n 20) ∷ spot 2 (n 30) ∷ []) 0 5
    (spot 0 (n 15) ∷ spot 1 (n 35) ∷ spot 4 (n 60) ∷ [])
mixed_told = refl

mixed_is : sorted_follow cmp five mixed
    ≡ deleted (n 10) ∷ deleted (n 20) ∷ deleted (n 30) ∷ inserted (n 15) ∷ inserted (n 35) ∷ kept
    ∷ kept ∷ inserted (n 60) ∷ []
mixed_is = refl

-- 3 becomes 4, which is between 2 and 5 too, and 8 becomes 9: both stay
abbrev four : List Tree
four = n 5 ∷ n 3 ∷ n 8 ∷ n 2 ∷ []

abbrev one_stays : Delta
one_stays = kept ∷ updated (n 3) (n 4) ∷ updated (n 8) (n 9) ∷ kept ∷ []

one_stays_flags : stay_flags 4 (1 ∷ 3 ∷ []) (1 ∷ 3 ∷ []) (move 1 1 ∷ move 3 3 ∷ [])
    ≡ true ∷ true ∷ []
one_stays_flags = refl

one_stays_told : sorted_follow cmp four one_stays
    ≡ between 0 4 (staying 1 (n 3) ∷ staying 3 (n 8) ∷ []) 0 4
    (staying 1 (n 4) ∷ staying 3 (n 9) ∷ [])
one_stays_told = refl

one_stays_is : sorted_follow cmp four one_stays
    ≡ kept ∷ updated (n 3) (n 4) ∷ kept ∷ updated (n 8) (n 9) ∷ []
one_stays_is = refl

-- of equal values the one that is first in the source is first: 2 becomes 5 and passes the other 5; 7 becomes 6
abbrev ties : List Tree
ties = n 5 ∷ n 2 ∷ n 7 ∷ []

abbrev tied : Delta
tied = kept ∷ updated (n 2) (n 5) ∷ updated (n 7) (n 6) ∷ []

tied_flags : stay_flags 3 (0 ∷ 2 ∷ []) (1 ∷ 2 ∷ []) (move 0 1 ∷ move 2 2 ∷ []) ≡ false ∷ true ∷ []
tied_flags = refl

tied_told : sorted_follow cmp ties tied
    ≡ between 0 3 (spot 0 (n 2) ∷ staying 2 (n 7) ∷ []) 0 3 (spot 1 (n 5) ∷ staying 2 (n 6) ∷ [])
tied_told = refl

tied_is : sorted_follow cmp ties tied
    ≡ deleted (n 2) ∷ kept ∷ inserted (n 5) ∷ updated (n 7) (n 6) ∷ []
tied_is = refl

-- three updates, of which the one in the middle passes the last: the first alone stays
three_scans : uncrossed_flags 9 (1 ∷ 5 ∷ 3 ∷ []) ≡ true ∷ false ∷ false ∷ []
three_scans = refl

-- one that passes two others crosses both
long_way : uncrossed_flags 9 (6 ∷ 1 ∷ 2 ∷ 8 ∷ []) ≡ false ∷ false ∷ false ∷ true ∷ []
long_way = refl
