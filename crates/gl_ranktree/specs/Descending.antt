-- What a client sees of a way down a tree.
use Rattle.std.specs.Prelude.{◌≡◌, ℕ, ◌+◌, ◌<◌, ◌≤◌, List, length, Option, Some, None, slice_get, refl}
use Rattle.std.specs.Coded.{Coded, code_by, coded×, coded_ℕ, coded_list}
use Rattle.gl_ranktree.specs.Summary.{Sums}
use Rattle.gl_ranktree.specs.Tree.{Tree, root, Inside}
use Rattle.gl_ranktree.specs.Nodes.{node_at}
use Rattle.gl_ranktree.specs.Edits.{Stands}
use Rattle.gl_ranktree.specs.Ranked.{entries_under, slots_of}
use Rattle.gl_ranktree.specs.declared.node.Node.{Node}

-- the slots of all entries in order, the places from `first` to before `end` that are left, the one of them at which the
-- way forks, and how many levels are left below
pub record Descending : Type 0 where
  pub slots : List ℕ
  pub first : ℕ
  pub middle : ℕ
  pub end : ℕ
  pub levels : ℕ

-- it is stored as the tuple of its fields
abbrev pub descending_code : Coded Descending
descending_code =
    code_by
    (List ℕ × (ℕ × (ℕ × (ℕ × ℕ))))
    (coded× (coded_list coded_ℕ) (coded× coded_ℕ (coded× coded_ℕ (coded× coded_ℕ coded_ℕ))))
    (λ d. (d.slots, (d.first, (d.middle, (d.end, d.levels)))))
    (λ p. record {
      slots = p.0;
      first = p.1.0;
      middle = p.1.1.0;
      end = p.1.1.1.0;
      levels =
          p.1.1.1.1;
    })
    (λ _. refl)

-- the place at which the way forks is one of those that are left, and has this slot
pub record ForksAt (d : Descending) (slot : ℕ) : Type 0 where
  pub at : slice_get d.slots d.middle ≡ Some slot
  pub low : d.first ≤ d.middle
  pub high : d.middle < d.end

-- the way forks at this slot, or ends where no place is left
abbrev pub Forks : Descending → Option ℕ → Type 0
Forks d None = d.first ≡ d.end
Forks d (Some slot) = ForksAt d slot

module _ {S : Type 0} (m : Sums S) where
  abbrev pub descending : List (Node S) → ℕ → ℕ → ℕ → Descending
  descending nodes whole top first = record {
    slots = slots_of (entries_under m nodes whole);
    first = first;
    middle = first + (node_at m nodes (node_at m nodes top).left).size;
    end = first + (node_at m nodes top).size;
    levels = (node_at m nodes top).height;
  }

  -- a subtree stands under this node, and so many entries of the whole tree to the left of it
  pub record IsDescent (nodes : List (Node S)) (whole top first : ℕ) : Type 0 where
    pub tree : Tree S
    pub part : Tree S
    pub before : List (ℕ × S)
    pub stands : Stands m nodes whole tree
    pub inside : Inside tree part before
    pub top_is : top ≡ root part
    pub first_is : first ≡ length before
