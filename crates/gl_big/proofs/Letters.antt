-- A lower-case letter is a text and a name.
use Rattle.std.proofs.Common.{◌≡◌, ◌<◌, ◌≤◌, ℕ, zero, suc, Bool, true, false, ◌&&◌, eqb, List, [], ◌∷◌, refl, arith}
use Rattle.std.specs.Prelude.{IsUtf8, IsTrue, nat_le, not, codes, bytes_eq, slice_index}
use Rattle.std.specs.Str.{IsAscii}
use Rattle.std.proofs.lemmas.Bool.{and_parts}
use Rattle.std.proofs.lemmas.Bool.Decides.{nat_tests}
use Rattle.std.proofs.lemmas.Str.{IsUtf8-from_ascii}
use Rattle.spec_value.specs.Name.{is_lower, is_name}

low_ascii : (b : ℕ) → b < 128 → IsAscii (b ∷ [])
low_ascii b low zero = low
low_ascii b low (suc i) = omega arith

letter_low : (b : ℕ) → IsTrue (is_lower b) → b < 128
letter_low b is = let both = and_parts (nat_le 97 b) (nat_le b 122) is in grind (arith, nat_tests, both.1)

pub letter_is_text : (b : ℕ) → IsTrue (is_lower b) → IsUtf8 (b ∷ [])
letter_is_text b is = IsUtf8-from_ascii (b ∷ []) (low_ascii b (letter_low b is))

one_letter : (lower first : Bool) → lower ≡ true → (lower && true && true && not (first && false)) ≡ true
one_letter true true e = refl
one_letter true false e = refl
one_letter false first e = e

pub letter_is_name : (b : ℕ) → IsTrue (is_lower b) → IsTrue (is_name (b ∷ []))
letter_is_name b is = one_letter (is_lower b) (eqb b 109) is
