-- The binary tree that the nodes of a vector stand for. A fork has the slot and the own summary of its node.
use Rattle.std.specs.Prelude.{◌≡◌, ℕ, zero, suc, ◌+◌, ◌≤◌, max, List, [], ◌∷◌, ◌++◌, length, cond, ◌==◌}
use Rattle.gl_ranktree.specs.Summary.{Sums}

pub data Tree (S : Type 0) : Type 0 where
  leaf : Tree S
  fork : Tree S → ℕ → S → Tree S → Tree S

-- the slot number that stands for no node
abbrev pub absent : ℕ
absent = 4294967295

-- 1 where the two slots are the same, and else 0
unfoldable pub hit : ℕ → ℕ → ℕ
hit i j = cond (i == j) 1 0

module _ {S : Type 0} where
  abbrev pub root : Tree S → ℕ
  root leaf = absent
  root (fork l i w r) = i

  abbrev pub tree_size : Tree S → ℕ
  tree_size leaf = 0
  tree_size (fork l i w r) = tree_size l + tree_size r + 1

  abbrev pub tree_height : Tree S → ℕ
  tree_height leaf = 0
  tree_height (fork l i w r) = max (tree_height l) (tree_height r) + 1

  -- the slots with their own summaries, from left to right
  abbrev pub inorder : Tree S → List (ℕ × S)
  inorder leaf = []
  inorder (fork l i w r) = inorder l ++ (i, w) ∷ inorder r

  -- how often a slot occurs
  abbrev pub times : ℕ → Tree S → ℕ
  times j leaf = 0
  times j (fork l i w r) = times j l + hit i j + times j r

  -- the own summaries added up
  abbrev pub tree_sum : Sums S → Tree S → S
  tree_sum m leaf = m.zero
  tree_sum m (fork l i w r) = m.plus (m.plus (tree_sum m l) w) (tree_sum m r)

  -- neither side is more than so much higher than the other
  abbrev pub DifferByAtMost : ℕ → Tree S → Tree S → Type 0
  DifferByAtMost by l r =
      (tree_height l ≤ tree_height r + by) × (tree_height r ≤ tree_height l + by)

  -- the sides of a fork
  abbrev pub left_of : Tree S → Tree S
  left_of leaf = leaf
  left_of (fork l i w r) = l

  abbrev pub right_of : Tree S → Tree S
  right_of leaf = leaf
  right_of (fork l i w r) = r

  -- the height that a tree with these sides may settle to
  pub record IsSettled (l r t : Tree S) : Type 0 where
    pub low : max (tree_height l) (tree_height r) ≤ tree_height t
    pub high : tree_height t ≤ max (tree_height l) (tree_height r) + 1
    pub level : DifferByAtMost 1 l r → tree_height t ≡ max (tree_height l) (tree_height r) + 1

  -- how often a slot stands in a list of entries
  abbrev pub hits : ℕ → List (ℕ × S) → ℕ
  hits j [] = 0
  hits j (e ∷ es) = hit e.0 j + hits j es

  -- the own summary at a place is another one
  abbrev pub with_own : List (ℕ × S) → ℕ → S → List (ℕ × S)
  with_own [] position own = []
  with_own (e ∷ es) zero own = (e.0, own) ∷ es
  with_own (e ∷ es) (suc position) own = e ∷ with_own es position own

  -- the own summaries of a list of entries, added up
  abbrev pub list_sum : Sums S → List (ℕ × S) → S
  list_sum m [] = m.zero
  list_sum m (e ∷ es) = m.plus e.1 (list_sum m es)

  -- the list has this entry at a place
  pub record SplitsAt (xs : List (ℕ × S)) (position : ℕ) (e : ℕ × S) : Type 0 where
    pub prefix : List (ℕ × S)
    pub back : List (ℕ × S)
    pub is : xs ≡ prefix ++ e ∷ back
    pub len : length prefix ≡ position

  -- the second tree stands in the first, to the right of these entries
  pub data Inside : Tree S → Tree S → List (ℕ × S) → Type 0 where
    whole : {t : Tree S} → Inside t t []
    on_left : {t l r : Tree S} {i : ℕ} {w : S} {before : List (ℕ × S)}
        → Inside t (fork l i w r) before → Inside t l before
    on_right : {t l r : Tree S} {i : ℕ} {w : S} {before : List (ℕ × S)}
        → Inside t (fork l i w r) before → Inside t r (before ++ (inorder l ++ (i, w) ∷ []))
