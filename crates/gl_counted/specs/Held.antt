-- How a `Counted` keeps its items: in a vector, by the slots of a tree.
use Rattle.std.specs.Prelude.{◌≡◌, ◌≢◌, ℕ, ◌+◌, ◌≤◌, List, [], ◌∷◌, length, Option, Some, None, IsSome, slice_index_or, max}
use Rattle.gl_ranktree.specs.Tree.{hits}
use Rattle.gl_ranktree.specs.Ranked.{Ranked}

module _ {T : Type 0} where
  -- the item in a slot
  abbrev pub item_at : List (Option T) → ℕ → Option T
  item_at items slot = slice_index_or items slot None

  abbrev pub under_slot : ℕ → Option T → List (ℕ × T) → List (ℕ × T)
  under_slot slot None rest = rest
  under_slot slot (Some x) rest = (slot, x) ∷ rest

  -- the items of a tree's entries, in order
  abbrev pub held : List (ℕ × Unit {0}) → List (Option T) → List (ℕ × T)
  held [] items = []
  held (e ∷ es) items = under_slot e.0 (item_at items e.0) (held es items)

  -- the slots of the tree's entries have items, no other slot has, and no slot occurs twice
  pub record IsHeld (tree : Ranked (Unit {0})) (items : List (Option T)) : Type 0 where
    pub slots : length items ≡ tree.slots
    pub filled : (j : ℕ) → 1 ≤ hits j tree.entries → IsSome (item_at items j)
    pub vacant : (j : ℕ) → hits j tree.entries ≡ 0 → item_at items j ≡ None
    pub distinct : (j : ℕ) → hits j tree.entries ≤ 1

  -- the item was put into this slot
  pub record Stores (old new : List (Option T)) (slot : ℕ) (item : Option T) : Type 0 where
    pub at : item_at new slot ≡ item
    pub others : (j : ℕ) → j ≢ slot → item_at new j ≡ item_at old j
    pub len : length new ≡ max (length old) (slot + 1)
