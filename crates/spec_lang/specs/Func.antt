-- Functions of a value. Sums stop at the ends of 64 bits, step by step.
use Rattle.std.specs.Prelude.{ℕ, ◌+◌, ℤ, pos, ◌+ℤ◌, List, [], ◌∷◌, length}
use Rattle.std.specs.Int.{saturate_signed, w64}
use Rattle.spec_value.specs.Tree.{Tree, num, text, items, Trees, none as no_trees, more as more_trees, elements}
use Rattle.spec_lang.specs.Path.{at}

mutual
  -- what a path gives; a number; a text; how many elements a path gives; the sum of what the second path gives of each
  -- of them; the sum of two; a list
  pub data Func : Type 0 where
    at_path : List ℕ → Func
    number : ℤ → Func
    bytes : List ℕ → Func
    count : List ℕ → Func
    total : List ℕ → List ℕ → Func
    sum : Func → Func → Func
    list : Funcs → Func

  pub data Funcs : Type 0 where
    none : Funcs
    more : Func → Funcs → Funcs

-- a list of functions as what a function holds
abbrev pub funcs : List Func → Funcs
funcs [] = none
funcs (f ∷ fs) = more f (funcs fs)

-- the functions that it holds, as a list
abbrev pub listed : Funcs → List Func
listed none = []
listed (more f fs) = f ∷ listed fs

-- a number as it is, anything else as 0
abbrev pub number_of : Tree → ℤ
number_of (num n) = n
number_of (text bs) = pos 0
number_of (items ts) = pos 0

-- a sum that stops at the ends of 64 bits
abbrev pub stopped_sum : ℤ → ℤ → ℤ
stopped_sum m n = saturate_signed w64 (m +ℤ n)

-- the sum from n of what the path gives of each of these
abbrev pub total_from : ℤ → List ℕ → List Tree → ℤ
total_from n path [] = n
total_from n path (v ∷ vs) = total_from (stopped_sum n (number_of (at path v))) path vs

abbrev mutual
  pub eval : Func → Tree → Tree
  eval (at_path path) v = at path v
  eval (number n) v = num n
  eval (bytes bs) v = text bs
  eval (count path) v = num (pos (length (elements (at path v))))
  eval (total path each) v = num (total_from (pos 0) each (elements (at path v)))
  eval (sum f g) v = num (stopped_sum (number_of (eval f v)) (number_of (eval g v)))
  eval (list fs) v = items (eval_all fs v)

  pub eval_all : Funcs → Tree → Trees
  eval_all none v = no_trees
  eval_all (more f fs) v = more_trees (eval f v) (eval_all fs v)

abbrev mutual
  -- how many functions stand inside a function, at any depth
  pub func_size : Func → ℕ
  func_size (at_path path) = 0
  func_size (number n) = 0
  func_size (bytes bs) = 0
  func_size (count path) = 0
  func_size (total path each) = 0
  func_size (sum f g) = func_size f + 1 + (func_size g + 1)
  func_size (list fs) = funcs_size fs

  pub funcs_size : Funcs → ℕ
  funcs_size none = 0
  funcs_size (more f fs) = func_size f + 1 + funcs_size fs
