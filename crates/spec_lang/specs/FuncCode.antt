-- How the logic stores a function: by a list of marks, read from the right onto a stack of lists.
use Rattle.std.specs.Prelude.{◌≡◌, ◌⊎◌, ℕ, ℤ, suc, zero, List, [], ◌∷◌, refl}
use Rattle.std.proofs.Common.{ap, ◌∙◌, inl, inr}
use Rattle.std.specs.Coded.{Coded, code_by, coded×, coded⊎, coded_ℕ, coded_ℤ, coded_list}
use Rattle.spec_lang.specs.Func.{Func, at_path, number, bytes, count, total, sum, list, Funcs, none, more}

-- an empty list, a sum of two, a list; a number; or a function of one or two paths or of bytes
abbrev pub Mark : Type 0
Mark = ℕ ⊎ (ℤ ⊎ (ℕ × (List ℕ × List ℕ)))

abbrev mutual
  pub func_marks : Func → List Mark → List Mark
  func_marks (at_path path) k = inr (inr (0, (path, []))) ∷ k
  func_marks (number n) k = inr (inl n) ∷ k
  func_marks (bytes bs) k = inr (inr (1, (bs, []))) ∷ k
  func_marks (count path) k = inr (inr (2, (path, []))) ∷ k
  func_marks (total path each) k = inr (inr (3, (path, each))) ∷ k
  func_marks (sum f g) k = inl 1 ∷ func_marks f (func_marks g k)
  func_marks (list fs) k = inl 2 ∷ funcs_marks fs k

  pub funcs_marks : Funcs → List Mark → List Mark
  funcs_marks none k = inl 0 ∷ k
  funcs_marks (more f fs) k = func_marks f (funcs_marks fs k)

abbrev push : Func → List Funcs → List Funcs
push f [] = []
push f (fs ∷ stack) = more f fs ∷ stack

-- the first two functions of the topmost list, added
abbrev join : List Funcs → List Funcs
join [] = []
join (none ∷ stack) = none ∷ stack
join (more f none ∷ stack) = none ∷ stack
join (more f (more g fs) ∷ stack) = more (sum f g) fs ∷ stack

abbrev nest : List Funcs → List Funcs
nest [] = []
nest (fs ∷ stack) = push (list fs) stack

abbrev read_mark : ℕ → List Funcs → List Funcs
read_mark zero stack = none ∷ stack
read_mark (suc zero) stack = join stack
read_mark (suc (suc n)) stack = nest stack

abbrev leaf : ℕ → List ℕ → List ℕ → Func
leaf zero p q = at_path p
leaf (suc zero) p q = bytes p
leaf (suc (suc zero)) p q = count p
leaf (suc (suc (suc n))) p q = total p q

abbrev read_marks : List Mark → List Funcs
read_marks [] = []
read_marks (inl n ∷ k) = read_mark n (read_marks k)
read_marks (inr (inl n) ∷ k) = push (number n) (read_marks k)
read_marks (inr (inr leaf_mark) ∷ k) =
    push (leaf leaf_mark.0 leaf_mark.1.0 leaf_mark.1.1) (read_marks k)

join-push : (f g : Func) (stack : List Funcs) → join (push f (push g stack)) ≡ push (sum f g) stack
join-push f g [] = refl
join-push f g (fs ∷ stack) = refl

mutual
  read_marks-func : (f : Func) (k : List Mark) → read_marks (func_marks f k) ≡ push f (read_marks k)
  read_marks-func (at_path path) k = refl
  read_marks-func (number n) k = refl
  read_marks-func (bytes bs) k = refl
  read_marks-func (count path) k = refl
  read_marks-func (total path each) k = refl
  read_marks-func (sum f g) k =
      ap join (read_marks-func f (func_marks g k) ∙ ap (push f) (read_marks-func g k))
      ∙ join-push f g (read_marks k)
  read_marks-func (list fs) k = ap nest (read_marks-funcs fs k)

  read_marks-funcs : (fs : Funcs) (k : List Mark)
      → read_marks (funcs_marks fs k) ≡ fs ∷ read_marks k
  read_marks-funcs none k = refl
  read_marks-funcs (more f fs) k =
      read_marks-func f (funcs_marks fs k) ∙ ap (push f) (read_marks-funcs fs k)

abbrev first : List Funcs → Func
first [] = list none
first (none ∷ stack) = list none
first (more f fs ∷ stack) = f

pub first-read_marks : (f : Func) → first (read_marks (func_marks f (inl 0 ∷ []))) ≡ f
first-read_marks f = ap first (read_marks-func f (inl 0 ∷ []))

abbrev pub func_code : Coded Func
func_code =
    code_by (List Mark)
    (coded_list
    (coded⊎ coded_ℕ
    (coded⊎ coded_ℤ (coded× coded_ℕ (coded× (coded_list coded_ℕ) (coded_list coded_ℕ))))))
    (λ f. func_marks f (inl 0 ∷ [])) (λ k. first (read_marks k)) first-read_marks
