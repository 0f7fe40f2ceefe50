-- What a search by a measure finds.
use Rattle.std.specs.Prelude.{◌≡◌, ℕ, ◌+◌, ◌<◌, ◌≤◌, List, [], ◌∷◌, ◌++◌, length, Option, Some, None, IsTrue}
use Rattle.gl_ranktree.specs.Summary.{Sums}
use Rattle.gl_ranktree.specs.Tree.{Tree, tree_sum, list_sum}
use Rattle.gl_ranktree.specs.Edits.{Stands}
use Rattle.gl_ranktree.specs.declared.node.Node.{Node}

module _ {S : Type 0} where
  -- the own summary of the first entry
  abbrev pub first_own : List (ℕ × S) → Option S
  first_own [] = None
  first_own (e ∷ es) = Some e.1

  -- with the first entry, if there is one, the number is passed
  abbrev pub Passes : (S → ℕ) → ℕ → ℕ → List (ℕ × S) → Type 0
  Passes measured so_far k [] = Unit {0}
  Passes measured so_far k (e ∷ es) = k < so_far + measured e.1

module _ {S : Type 0} (m : Sums S) where
  -- the entries before this place measure no more than the number, and with the entry there they pass it
  pub record IsSought (measured : S → ℕ) (es : List (ℕ × S)) (k position : ℕ) (before : S)
      (own : Option S) : Type 0 where
    pub prefix : List (ℕ × S)
    pub back : List (ℕ × S)
    pub is : es ≡ prefix ++ back
    pub position_is : position ≡ length prefix
    pub before_is : before ≡ list_sum m prefix
    pub own_is : own ≡ first_own back
    pub reached : measured (list_sum m prefix) ≤ k
    pub passed : Passes measured (measured (list_sum m prefix)) k back

  -- a tree whose sum the type can hold
  pub record SomeFitting (nodes : List (Node S)) (top : ℕ) : Type 0 where
    pub tree : Tree S
    pub stands : Stands m nodes top tree
    pub fits : IsTrue (m.fits (tree_sum m tree))
