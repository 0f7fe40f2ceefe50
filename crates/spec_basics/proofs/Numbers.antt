-- Laws of numbers and their tests.
use Rattle.std.proofs.Common.{◌≡◌, ◌≢◌, ℕ, suc, Bool, true, false, ◌==◌, eqb, ltb, refl, arith}
use Rattle.std.proofs.lemmas.Bool.{eqb-true}
use Rattle.std.proofs.lemmas.Bool.Decides.{nat_tests}

pub ltb-suc : (k n : ℕ) → ltb (suc k) (suc n) ≡ ltb k n
ltb-suc k n = grind (arith, nat_tests)

pub not_equal : (m n : ℕ) → m ≢ n → (m == n) ≡ false
not_equal m n e = by_test (m == n) refl
  where
    by_test : (t : Bool) → (m == n) ≡ t → t ≡ false
    by_test true f = absurd (e (eqb-true m n f))
    by_test false f = refl

pub same_number : (x y : ℕ) → eqb x y ≡ true → x ≡ y
same_number x y h = grind (arith, nat_tests)

pub zero_suc : (n : ℕ) → (0 == suc n) ≡ false
zero_suc n = grind (arith, nat_tests)

pub suc_zero : (n : ℕ) → (suc n == 0) ≡ false
suc_zero n = grind (arith, nat_tests)

pub suc_suc : (m n : ℕ) → (suc m == suc n) ≡ (m == n)
suc_suc m n = grind (arith, nat_tests)
