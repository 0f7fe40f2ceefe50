-- How the logic stores a value: by a list of marks, read from the right onto a stack of lists.
use Rattle.std.specs.Prelude.{◌≡◌, ◌⊎◌, ℕ, ℤ, pos, Bool, true, false, List, [], ◌∷◌, refl}
use Rattle.std.proofs.Common.{ap, ◌∙◌, inl, inr}
use Rattle.std.specs.Coded.{Coded, code_by, coded⊎, coded_ℕ, coded_ℤ, coded_bool, coded_list}
use Rattle.spec_value.specs.Tree.{Tree, num, text, items, Trees, none, more}

-- an empty list, a list put into the next one, a number, or a text
abbrev pub Mark : Type 0
Mark = Bool ⊎ (ℤ ⊎ List ℕ)

abbrev mutual
  -- the marks of a value before those of the list that it begins
  pub tree_marks : Tree → List Mark → List Mark
  tree_marks (num n) k = inr (inl n) ∷ k
  tree_marks (text bs) k = inr (inr bs) ∷ k
  tree_marks (items ts) k = inl false ∷ trees_marks ts k

  -- the marks of a list before those below it on the stack
  pub trees_marks : Trees → List Mark → List Mark
  trees_marks none k = inl true ∷ k
  trees_marks (more t ts) k = tree_marks t (trees_marks ts k)

-- a value put before the topmost list
abbrev pub push : Tree → List Trees → List Trees
push t [] = []
push t (ts ∷ stack) = more t ts ∷ stack

-- the topmost list put before the next one
abbrev pub nest : List Trees → List Trees
nest [] = []
nest (ts ∷ stack) = push (items ts) stack

abbrev pub read_marks : List Mark → List Trees
read_marks [] = []
read_marks (inl true ∷ k) = none ∷ read_marks k
read_marks (inl false ∷ k) = nest (read_marks k)
read_marks (inr (inl n) ∷ k) = push (num n) (read_marks k)
read_marks (inr (inr bs) ∷ k) = push (text bs) (read_marks k)

mutual
  pub read_marks-tree : (t : Tree) (k : List Mark)
      → read_marks (tree_marks t k) ≡ push t (read_marks k)
  read_marks-tree (num n) k = refl
  read_marks-tree (text bs) k = refl
  read_marks-tree (items ts) k = ap nest (read_marks-trees ts k)

  pub read_marks-trees : (ts : Trees) (k : List Mark)
      → read_marks (trees_marks ts k) ≡ ts ∷ read_marks k
  read_marks-trees none k = refl
  read_marks-trees (more t ts) k =
      read_marks-tree t (trees_marks ts k) ∙ ap (push t) (read_marks-trees ts k)

abbrev pub first : List Trees → Tree
first [] = num (pos 0)
first (none ∷ stack) = num (pos 0)
first (more t ts ∷ stack) = t

abbrev pub to_marks : Tree → List Mark
to_marks t = tree_marks t (inl true ∷ [])

abbrev pub from_marks : List Mark → Tree
from_marks k = first (read_marks k)

pub from_marks-to_marks : (t : Tree) → from_marks (to_marks t) ≡ t
from_marks-to_marks t = ap first (read_marks-tree t (inl true ∷ []))

abbrev pub tree_code : Coded Tree
tree_code =
    code_by (List Mark) (coded_list (coded⊎ coded_bool (coded⊎ coded_ℤ (coded_list coded_ℕ))))
    to_marks from_marks from_marks-to_marks
