-- What the edits of a tree need, and what they leave.
use Rattle.std.specs.Prelude.{◌≡◌, ℕ, ◌+◌, ◌<◌, ◌≤◌, ◌^◌, max, List, ◌∷◌, ◌++◌, length, insert, remove}
use Rattle.gl_ranktree.specs.Summary.{Sums}
use Rattle.gl_ranktree.specs.Tree.{Tree, root, tree_size, tree_height, inorder, times, hit, with_own, DifferByAtMost}
use Rattle.gl_ranktree.specs.Nodes.{node_at, Realizes, IsAddressed, Becomes}
use Rattle.gl_ranktree.specs.declared.node.Node.{Node}

-- one height is the other, or one more
abbrev pub IsLevelOrOneMore : ℕ → ℕ → Type 0
IsLevelOrOneMore low high = (low ≤ high) × (high ≤ low + 1)

module _ {S : Type 0} (m : Sums S) where
  -- a tree stands under this root, with no slot twice
  pub record Stands (nodes : List (Node S)) (top : ℕ) (t : Tree S) : Type 0 where
    pub top_is : top ≡ root t
    pub stands : Realizes m nodes t
    pub apart : (j : ℕ) → times j t ≤ 1
    pub addressed : IsAddressed nodes
    pub small : tree_size t < 2 ^ 32

  -- a slot outside the tree may be put at a place
  pub record CanInsert (nodes : List (Node S)) (top position slot : ℕ) (t : Tree S) : Type 0 where
    pub top_is : top ≡ root t
    pub stands : Realizes m nodes t
    pub apart : (j : ℕ) → times j t + hit slot j ≤ 1
    pub within : slot < length nodes
    pub addressed : IsAddressed nodes
    pub small : tree_size t + 1 < 2 ^ 32
    pub in_range : position ≤ tree_size t

  pub record SomeCanInsert (nodes : List (Node S)) (top position slot : ℕ) : Type 0 where
    pub tree : Tree S
    pub can : CanInsert nodes top position slot tree

  pub record Inserts (old new : List (Node S)) (top position slot : ℕ) (t : Tree S) : Type 0 where
    pub tree : Tree S
    pub becomes : Becomes m old new top tree
    pub order : inorder tree ≡ insert (inorder t) position (slot, (node_at m old slot).own)
    pub height : IsLevelOrOneMore (tree_height t) (tree_height tree)

  -- a tree that isn't empty
  pub record SomeFilled (nodes : List (Node S)) (top : ℕ) : Type 0 where
    pub tree : Tree S
    pub stands : Stands nodes top tree
    pub filled : 1 ≤ tree_height tree

  -- the first entry is taken off
  pub record TakesFirst (old new : List (Node S)) (first top : ℕ) (t : Tree S) : Type 0 where
    pub tree : Tree S
    pub becomes : Becomes m old new top tree
    pub order : inorder t ≡ (first, (node_at m old first).own) ∷ inorder tree
    pub height : IsLevelOrOneMore (tree_height tree) (tree_height t)

  -- two trees side by side
  pub record CanMerge (nodes : List (Node S)) (left right : ℕ) (l r : Tree S) : Type 0 where
    pub left_is : left ≡ root l
    pub right_is : right ≡ root r
    pub left_stands : Realizes m nodes l
    pub right_stands : Realizes m nodes r
    pub apart : (j : ℕ) → times j l + times j r ≤ 1
    pub addressed : IsAddressed nodes
    pub small : tree_size l + tree_size r < 2 ^ 32
    pub near : DifferByAtMost 1 l r

  pub record SomeCanMerge (nodes : List (Node S)) (left right : ℕ) : Type 0 where
    pub l : Tree S
    pub r : Tree S
    pub can : CanMerge nodes left right l r

  pub record Merges (old new : List (Node S)) (top : ℕ) (l r : Tree S) : Type 0 where
    pub tree : Tree S
    pub becomes : Becomes m old new top tree
    pub order : inorder tree ≡ inorder l ++ inorder r
    pub height : IsLevelOrOneMore (max (tree_height l) (tree_height r)) (tree_height tree)

  -- a tree with an entry at this place
  pub record SomeWithPlace (nodes : List (Node S)) (top position : ℕ) : Type 0 where
    pub tree : Tree S
    pub stands : Stands nodes top tree
    pub in_range : position < tree_size tree

  -- the entry at a place is taken out
  pub record Removes (old new : List (Node S)) (top position : ℕ) (t : Tree S) : Type 0 where
    pub tree : Tree S
    pub becomes : Becomes m old new top tree
    pub order : inorder tree ≡ remove (inorder t) position
    pub height : IsLevelOrOneMore (tree_height tree) (tree_height t)

  -- the own summary of the entry at a place is another one
  pub record SetsOwn (old new : List (Node S)) (top position : ℕ) (own : S) (t : Tree S) : Type 0
    where
      pub tree : Tree S
      pub becomes : Becomes m old new top tree
      pub order : inorder tree ≡ with_own (inorder t) position own
      pub height : tree_height tree ≡ tree_height t
