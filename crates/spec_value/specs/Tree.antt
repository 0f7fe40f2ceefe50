-- A value is a number, a text or a list of values.
use Rattle.std.specs.Prelude.{◌≡◌, ℕ, ◌+◌, ℤ, max, List, [], ◌∷◌, refl}
use Rattle.std.proofs.Common.{ap}

mutual
  -- a value: a number, a text by its bytes, or a list of values
  pub data Tree : Type 0 where
    num : ℤ → Tree
    text : List ℕ → Tree
    items : Trees → Tree

  -- the values of a list, the first in front
  pub data Trees : Type 0 where
    none : Trees
    more : Tree → Trees → Trees

-- a list of values as what a value holds
abbrev pub trees : List Tree → Trees
trees [] = none
trees (t ∷ ts) = more t (trees ts)

-- the values that it holds, as a list
abbrev pub list : Trees → List Tree
list none = []
list (more t ts) = t ∷ list ts

-- the value that is the list of these
abbrev pub items_of : List Tree → Tree
items_of ts = items (trees ts)

-- the elements of a list; a number and a text have none
abbrev pub elements : Tree → List Tree
elements (num n) = []
elements (text bs) = []
elements (items ts) = list ts

abbrev mutual
  -- how many values stand inside a value, at any depth
  pub tree_size : Tree → ℕ
  tree_size (num n) = 0
  tree_size (text bs) = 0
  tree_size (items ts) = trees_size ts

  pub trees_size : Trees → ℕ
  trees_size none = 0
  trees_size (more t ts) = tree_size t + 1 + trees_size ts

abbrev mutual
  -- how deep a value nests: a number and a text 0, a list one more than its deepest element, the empty list 1
  pub nesting : Tree → ℕ
  nesting (num n) = 0
  nesting (text bs) = 0
  nesting (items ts) = trees_nesting ts + 1

  pub trees_nesting : Trees → ℕ
  trees_nesting none = 0
  trees_nesting (more t ts) = max (nesting t) (trees_nesting ts)

-- the two forms of a list are one
pub list-trees : (ts : List Tree) → list (trees ts) ≡ ts
list-trees [] = refl
list-trees (t ∷ ts) = ap (λ us. t ∷ us) (list-trees ts)

pub trees-list : (ts : Trees) → trees (list ts) ≡ ts
trees-list none = refl
trees-list (more t ts) = ap (more t) (trees-list ts)
