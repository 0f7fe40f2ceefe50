-- What the searches in a tree need, and what they find.
use Rattle.std.specs.Prelude.{◌≡◌, ℕ, ◌≤◌, List}
use Rattle.gl_ranktree.specs.Summary.{Sums}
use Rattle.gl_ranktree.specs.Tree.{Tree, root, tree_height, inorder, Inside, SplitsAt}
use Rattle.gl_ranktree.specs.Nodes.{node_at, IsUnder}
use Rattle.gl_ranktree.specs.Edits.{Stands}
use Rattle.gl_ranktree.specs.declared.node.Node.{Node}

module _ {S : Type 0} (m : Sums S) where
  -- a tree with no parent, and one that isn't empty inside it
  pub record IsWithin (nodes : List (Node S)) (slot : ℕ) (t u : Tree S)
      (before : List (ℕ × S)) : Type 0 where
    pub stands : Stands m nodes (root t) t
    pub alone : IsUnder m nodes t 4294967295
    pub inside : Inside t u before
    pub slot_is : slot ≡ root u
    pub filled : 1 ≤ tree_height u

  pub record SomeWithin (nodes : List (Node S)) (slot : ℕ) : Type 0 where
    pub t : Tree S
    pub u : Tree S
    pub before : List (ℕ × S)
    pub within : IsWithin nodes slot t u before

  -- the slot of an entry at a place, with its own summary
  abbrev pub IsEntryAt : List (Node S) → Tree S → ℕ → ℕ → Type 0
  IsEntryAt nodes t position slot = SplitsAt (inorder t) position (slot, (node_at m nodes slot).own)
