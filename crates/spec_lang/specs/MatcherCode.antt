-- How the logic stores a matcher: by a list of marks, read from the right onto a stack of lists.
use Rattle.std.specs.Prelude.{◌≡◌, ◌⊎◌, ℕ, suc, zero, List, [], ◌∷◌, refl}
use Rattle.std.proofs.Common.{ap, ◌∙◌, inl, inr}
use Rattle.std.specs.Coded.{Coded, code_by, coded×, coded⊎, coded_ℕ, coded_list}
use Rattle.spec_value.specs.Tree.{Tree}
use Rattle.spec_value.specs.Code.{tree_code}
use Rattle.spec_lang.specs.declared.Test.{Test}
use Rattle.spec_lang.specs.declared.Test.TheVariants.{Eq, Ne, Lt, Le, Gt, Ge}
use Rattle.spec_lang.specs.Matcher.{Matcher, all, nothing, is, negation, both, either, Matchers, none, more}

abbrev pub test_number : Test → ℕ
test_number Eq = 0
test_number Ne = 1
test_number Lt = 2
test_number Le = 3
test_number Gt = 4
test_number Ge = 5

abbrev pub numbered_test : ℕ → Test
numbered_test zero = Eq
numbered_test (suc zero) = Ne
numbered_test (suc (suc zero)) = Lt
numbered_test (suc (suc (suc zero))) = Le
numbered_test (suc (suc (suc (suc zero)))) = Gt
numbered_test (suc (suc (suc (suc (suc n))))) = Ge

pub numbered_test-test_number : (t : Test) → numbered_test (test_number t) ≡ t
numbered_test-test_number Eq = refl
numbered_test-test_number Ne = refl
numbered_test-test_number Lt = refl
numbered_test-test_number Le = refl
numbered_test-test_number Gt = refl
numbered_test-test_number Ge = refl

abbrev pub test_code : Coded Test
test_code = code_by ℕ coded_ℕ test_number numbered_test numbered_test-test_number

-- an empty list, everything, nothing, a negation, an and, an or; or a comparison
abbrev pub Mark : Type 0
Mark = ℕ ⊎ (List ℕ × (Test × Tree))

abbrev mutual
  pub matcher_marks : Matcher → List Mark → List Mark
  matcher_marks all k = inl 1 ∷ k
  matcher_marks nothing k = inl 2 ∷ k
  matcher_marks (is path test literal) k = inr (path, (test, literal)) ∷ k
  matcher_marks (negation m) k = inl 3 ∷ matcher_marks m k
  matcher_marks (both ms) k = inl 4 ∷ matchers_marks ms k
  matcher_marks (either ms) k = inl 5 ∷ matchers_marks ms k

  pub matchers_marks : Matchers → List Mark → List Mark
  matchers_marks none k = inl 0 ∷ k
  matchers_marks (more m ms) k = matcher_marks m (matchers_marks ms k)

abbrev push : Matcher → List Matchers → List Matchers
push m [] = []
push m (ms ∷ stack) = more m ms ∷ stack

-- the first matcher of the topmost list, negated
abbrev negate : List Matchers → List Matchers
negate [] = []
negate (none ∷ stack) = none ∷ stack
negate (more m ms ∷ stack) = more (negation m) ms ∷ stack

-- the topmost list made a matcher, before the next one
abbrev nest : (Matchers → Matcher) → List Matchers → List Matchers
nest make [] = []
nest make (ms ∷ stack) = push (make ms) stack

abbrev read_mark : ℕ → List Matchers → List Matchers
read_mark zero stack = none ∷ stack
read_mark (suc zero) stack = push all stack
read_mark (suc (suc zero)) stack = push nothing stack
read_mark (suc (suc (suc zero))) stack = negate stack
read_mark (suc (suc (suc (suc zero)))) stack = nest both stack
read_mark (suc (suc (suc (suc (suc n))))) stack = nest either stack

abbrev pub read_marks : List Mark → List Matchers
read_marks [] = []
read_marks (inl n ∷ k) = read_mark n (read_marks k)
read_marks (inr (path, (test, literal)) ∷ k) = push (is path test literal) (read_marks k)

negate-push : (m : Matcher) (stack : List Matchers)
    → negate (push m stack) ≡ push (negation m) stack
negate-push m [] = refl
negate-push m (ms ∷ stack) = refl

mutual
  read_marks-matcher : (m : Matcher) (k : List Mark)
      → read_marks (matcher_marks m k) ≡ push m (read_marks k)
  read_marks-matcher all k = refl
  read_marks-matcher nothing k = refl
  read_marks-matcher (is path test literal) k = refl
  read_marks-matcher (negation m) k =
      ap negate (read_marks-matcher m k) ∙ negate-push m (read_marks k)
  read_marks-matcher (both ms) k = ap (nest both) (read_marks-matchers ms k)
  read_marks-matcher (either ms) k = ap (nest either) (read_marks-matchers ms k)

  read_marks-matchers : (ms : Matchers) (k : List Mark)
      → read_marks (matchers_marks ms k) ≡ ms ∷ read_marks k
  read_marks-matchers none k = refl
  read_marks-matchers (more m ms) k =
      read_marks-matcher m (matchers_marks ms k) ∙ ap (push m) (read_marks-matchers ms k)

abbrev pub first : List Matchers → Matcher
first [] = all
first (none ∷ stack) = all
first (more m ms ∷ stack) = m

pub first-read_marks : (m : Matcher) → first (read_marks (matcher_marks m (inl 0 ∷ []))) ≡ m
first-read_marks m = ap first (read_marks-matcher m (inl 0 ∷ []))

abbrev pub matcher_code : Coded Matcher
matcher_code =
    code_by (List Mark)
    (coded_list (coded⊎ coded_ℕ (coded× (coded_list coded_ℕ) (coded× test_code tree_code))))
    (λ m. matcher_marks m (inl 0 ∷ [])) (λ k. first (read_marks k)) first-read_marks
