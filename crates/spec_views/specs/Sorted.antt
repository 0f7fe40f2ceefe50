-- A sorted list shows the elements of its input in their order. Elements of equal key stand as they do in the input.
use Rattle.std.specs.Prelude.{◌==◌, ◌||◌, ℕ, zero, suc, Bool, not, List, [], ◌∷◌, map, filter, length, flat_map, if◌then◌else◌}
use Rattle.std.specs.List.{list_all, range_with_len}
use Rattle.spec_value.specs.Tree.{Tree}
use Rattle.spec_lists.specs.Pairs.{Pair, pairs}
use Rattle.spec_lists.specs.Delta.{Delta}
use Rattle.spec_lists.specs.Leads.{applied}
use Rattle.spec_lists.specs.Making.{pieces_by, replaced}
use Rattle.spec_views.specs.Source.{element_at}
use Rattle.spec_views.specs.Arrangement.{Comparison, is_before, arrangement}

abbrev pub sorted_view : Comparison → List Tree → List Tree
sorted_view compare xs = map (element_at xs) (arrangement compare xs)

-- whether a pair stands before another one in the new order exactly where it does in the old one
abbrev pub keeps_order : Comparison → List Tree → List Tree → Pair → Pair → Bool
keeps_order compare xs ys p q =
    agree (is_before compare xs p.old q.old) (is_before compare ys p.new q.new)
  where
    agree : Bool → Bool → Bool
    agree before after = if before then after else not after

-- Whether a pair of the input, from xs to ys, is one of the sorted list: a plain one is, and an updated one whose order
-- against every paired element is the same before and after.
abbrev pub stays : Comparison → List Tree → List Tree → List Pair → Pair → Bool
stays compare xs ys ps p = not p.updated || list_all (keeps_order compare xs ys p) ps

-- where a number stands in a list; the length where it doesn't
abbrev pub index_of : ℕ → List ℕ → ℕ
index_of k [] = 0
index_of k (j ∷ js) = if j == k then 0 else suc (index_of k js)

-- a pair of the input between the sorted places of its elements
abbrev pub at_sorted_positions : Comparison → List Tree → List Tree → Pair → Pair
at_sorted_positions compare xs ys p = record {
  old = index_of p.old (arrangement compare xs);
  new = index_of p.new (arrangement compare ys);
  updated = p.updated;
}

-- pairs in the order of their old places, which are below n
abbrev pub by_old_position : ℕ → List Pair → List Pair
by_old_position n ps = flat_map (λ k. filter (λ p. p.old == k) ps) (range_with_len 0 n)

-- the pairs of the sorted list, where the input has these from xs to ys
abbrev pub sorted_pairs : Comparison → List Tree → List Tree → List Pair → List Pair
sorted_pairs compare xs ys ps =
    by_old_position (length xs)
    (map (at_sorted_positions compare xs ys) (filter (stays compare xs ys ps) ps))

-- the change of a sorted list whose input changes by this delta from these elements
abbrev pub sorted_follow : Comparison → List Tree → Delta → Delta
sorted_follow compare xs d =
    pieces_by (sorted_view compare xs) (sorted_view compare (applied d xs))
    (sorted_pairs compare xs (applied d xs) (pairs d))

-- the change of a sorted list that gets another order: it pairs nothing
abbrev pub sorted_change : Comparison → Comparison → List Tree → Delta
sorted_change before after xs = replaced (sorted_view before xs) (sorted_view after xs)
