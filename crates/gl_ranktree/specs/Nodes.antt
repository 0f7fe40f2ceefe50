-- When the nodes of a vector stand for a tree, and what the steps of the code make of them.
use Rattle.std.specs.Prelude.{◌≡◌, ◌≢◌, ℕ, ◌+◌, ◌<◌, ◌≤◌, ◌^◌, max, List, ◌∷◌, ◌++◌, length, IsTrue, slice_index_or}
use Rattle.gl_ranktree.specs.Summary.{Sums}
use Rattle.gl_ranktree.specs.Tree.{Tree, leaf, fork, absent, root, tree_size, tree_height, inorder, times, hit, tree_sum, DifferByAtMost, IsSettled}
use Rattle.gl_ranktree.specs.declared.node.Node.{Node}

-- every slot number is below the one that stands for no node
abbrev pub IsAddressed : {S : Type 0} → List (Node S) → Type 0
IsAddressed nodes = length nodes < 2 ^ 32

module _ {S : Type 0} (m : Sums S) where
  -- what is read where there is no node
  abbrev pub blank : Node S
  blank = record {
    parent = absent;
    left = absent;
    right = absent;
    size = 0;
    height = 0;
    own =
        m.zero;
    sum = m.zero;
  }

  unfoldable pub node_at : List (Node S) → ℕ → Node S
  node_at nodes slot = slice_index_or nodes slot blank

  -- the tree's root, if it has one, names this node as its parent
  abbrev pub IsUnder : List (Node S) → Tree S → ℕ → Type 0
  IsUnder nodes leaf parent = Unit {0}
  IsUnder nodes (fork l i w r) parent = (node_at nodes i).parent ≡ parent

  -- the node in a fork's slot says what stands round it and below it
  pub record IsFork (nodes : List (Node S)) (l : Tree S) (i : ℕ) (w : S) (r : Tree S) : Type 0 where
    pub within : i < length nodes
    pub left : (node_at nodes i).left ≡ root l
    pub right : (node_at nodes i).right ≡ root r
    pub left_under : IsUnder nodes l i
    pub right_under : IsUnder nodes r i
    pub size : (node_at nodes i).size ≡ tree_size l + tree_size r + 1
    pub height : (node_at nodes i).height ≡ max (tree_height l) (tree_height r) + 1
    pub own : (node_at nodes i).own ≡ w
    pub sum : IsTrue (m.fits (tree_sum m (fork l i w r)))
        → (node_at nodes i).sum ≡ tree_sum m (fork l i w r)
    pub balanced : DifferByAtMost 1 l r

  -- the nodes stand for the tree; of its root's parent nothing is said
  abbrev pub Realizes : List (Node S) → Tree S → Type 0
  Realizes nodes leaf = Unit {0}
  Realizes nodes (fork l i w r) = IsFork nodes l i w r × Realizes nodes l × Realizes nodes r

  -- one node was written
  pub record Puts (old new : List (Node S)) (slot : ℕ) (node : Node S) : Type 0 where
    pub at : node_at new slot ≡ node
    pub others : (j : ℕ) → j ≢ slot → node_at new j ≡ node_at old j
    pub len : length new ≡ length old

  -- the parent of one node was written, if that node is there
  pub record Reparents (old new : List (Node S)) (slot parent : ℕ) : Type 0 where
    pub at : slot < length old → node_at new slot ≡ record (node_at old slot) { parent = parent }
    pub others : (j : ℕ) → j ≢ slot → node_at new j ≡ node_at old j
    pub past : length old ≤ slot → (j : ℕ) → node_at new j ≡ node_at old j
    pub len : length new ≡ length old

  -- two trees and a node between them, with no slot twice
  pub record Sides (nodes : List (Node S)) (left slot right : ℕ) (l r : Tree S) : Type 0 where
    pub left_is : left ≡ root l
    pub right_is : right ≡ root r
    pub left_stands : Realizes nodes l
    pub right_stands : Realizes nodes r
    pub apart : (j : ℕ) → times j l + hit slot j + times j r ≤ 1
    pub within : slot < length nodes
    pub addressed : IsAddressed nodes
    pub small : tree_size l + tree_size r + 1 < 2 ^ 32

  -- such trees, whose heights differ by at most so much
  pub record SomeSides (nodes : List (Node S)) (left slot right by : ℕ) : Type 0 where
    pub l : Tree S
    pub r : Tree S
    pub sides : Sides nodes left slot right l r
    pub near : DifferByAtMost by l r

  -- a node says what its tree is as a whole
  pub record IsHead (node : Node S) (t : Tree S) : Type 0 where
    pub size : node.size ≡ tree_size t
    pub height : node.height ≡ tree_height t
    pub sum : IsTrue (m.fits (tree_sum m t)) → node.sum ≡ tree_sum m t

  -- the nodes now stand for this tree, and those outside it are as they were
  pub record Becomes (old new : List (Node S)) (top : ℕ) (tree : Tree S) : Type 0 where
    pub top_is : top ≡ root tree
    pub stands : Realizes new tree
    pub frame : (j : ℕ) → times j tree ≡ 0 → node_at new j ≡ node_at old j
    pub len : length new ≡ length old

  -- what a node over two trees says
  pub record IsJoint (nodes : List (Node S)) (slot : ℕ) (l r : Tree S) (node : Node S) : Type 0
    where
      pub left : node.left ≡ root l
      pub right : node.right ≡ root r
      pub size : node.size ≡ tree_size l + tree_size r + 1
      pub height : node.height ≡ max (tree_height l) (tree_height r) + 1
      pub own : node.own ≡ (node_at nodes slot).own
      pub sum : IsTrue (m.fits (tree_sum m (fork l slot (node_at nodes slot).own r)))
          → node.sum ≡ tree_sum m (fork l slot (node_at nodes slot).own r)

  -- two trees and the node between them are joined to one, from left to right as they were
  pub record Joins (old new : List (Node S)) (top slot : ℕ) (l r : Tree S) : Type 0 where
    pub tree : Tree S
    pub becomes : Becomes old new top tree
    pub order : inorder tree ≡ inorder l ++ (slot, (node_at old slot).own) ∷ inorder r
    pub settled : IsSettled l r tree

  -- sides of which the left one is two higher
  pub record SomeLeftHigh (nodes : List (Node S)) (left slot right : ℕ) : Type 0 where
    pub l : Tree S
    pub r : Tree S
    pub sides : Sides nodes left slot right l r
    pub tilt : tree_height l ≡ tree_height r + 2

  -- sides of which the right one is two higher
  pub record SomeRightHigh (nodes : List (Node S)) (left slot right : ℕ) : Type 0 where
    pub l : Tree S
    pub r : Tree S
    pub sides : Sides nodes left slot right l r
    pub tilt : tree_height r ≡ tree_height l + 2
