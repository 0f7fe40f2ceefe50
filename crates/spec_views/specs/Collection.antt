-- A collection shows the children of each element of its input, one after another.
use Rattle.std.specs.Prelude.{ℕ, ◌+◌, Bool, true, false, min, List, map, flat_map, take, length}
use Rattle.std.specs.List.{range_with_len}
use Rattle.spec_value.specs.Tree.{Tree}
use Rattle.spec_lists.specs.Pairs.{Pair, pairs}
use Rattle.spec_lists.specs.Delta.{Delta}
use Rattle.spec_lists.specs.Leads.{applied}
use Rattle.spec_lists.specs.Making.{pieces_by}
use Rattle.spec_views.specs.Source.{element_at}

abbrev pub collection_view : (Tree → List Tree) → List Tree → List Tree
collection_view children xs = flat_map children xs

-- how many children the element at a place has, and how many all elements before it have
abbrev pub child_count : (Tree → List Tree) → List Tree → ℕ → ℕ
child_count children xs i = length (children (element_at xs i))

abbrev pub children_before : (Tree → List Tree) → List Tree → ℕ → ℕ
children_before children xs i = length (flat_map children (take i xs))

-- how many children of a pair are pairs: all of a plain one, of an updated one as many as both elements have
abbrev pub paired_children : (Tree → List Tree) → List Tree → List Tree → Pair → ℕ
paired_children children xs ys p =
    min (child_count children xs p.old) (child_count children ys p.new)

-- the pairs of the children of a pair of the input, plain or updated as it is
abbrev pub child_pairs : (Tree → List Tree) → List Tree → List Tree → Pair → List Pair
child_pairs children xs ys p =
    map (λ k.
    record {
      old = children_before children xs p.old + k;
      new =
          children_before children ys p.new + k;
      updated = p.updated;
    })
    (range_with_len 0 (paired_children children xs ys p))

-- the change of a collection whose input changes by this delta from these elements
abbrev pub collection_follow : (Tree → List Tree) → List Tree → Delta → Delta
collection_follow children xs d =
    pieces_by (collection_view children xs) (collection_view children (applied d xs))
    (flat_map (child_pairs children xs (applied d xs)) (pairs d))
