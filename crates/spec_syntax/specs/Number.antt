-- The grammar of numbers. A number never leaves its range: it stops before the digit with which it would.
use Rattle.std.specs.Prelude.{◌≡◌, ◌+◌, ◌-◌, ◌*◌, ◌≤◌, ◌&&◌, nat_le, ℕ, ℤ, pos, negsuc, Bool, IsTrue, [], ◌∷◌, codes}
use Rattle.spec_syntax.specs.Grammar.{Grammar, word, mapped, either, after, led}

abbrev pub between : ℕ → ℕ → ℕ → Bool
between low high b = nat_le low b && nat_le b high

abbrev pub is_digit : ℕ → Bool
is_digit = between 48 57

-- the digits after a number, each of which makes it longer
abbrev pub longer : ℕ → ℕ → Grammar ℕ
longer top a n [] = n ≡ a
longer top a n (d ∷ ds) =
    IsTrue (is_digit d) × (a * 10 + (d - 48) ≤ top) × longer top (a * 10 + (d - 48)) n ds

-- a number from 1 on: a digit from 1 to 9, and more digits
abbrev pub positive : ℕ → Grammar ℕ
positive top = mapped (λ by. by.1) (led (between 49 57) (λ d. longer top (d - 48)))

-- a number from 0 on
abbrev pub natural : ℕ → Grammar ℕ
natural top = either (mapped (λ _. 0) (word (codes "0"))) (positive top)

abbrev pub negative : ℕ → ℤ
negative n = negsuc (n - 1)

-- number = "0" | ["-"] digit1 {digit}, of 64 bits
abbrev pub number : Grammar ℤ
number =
    either (mapped negative (after (codes "-") (positive 9223372036854775808)))
    (mapped pos (natural 9223372036854775807))
