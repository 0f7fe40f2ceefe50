-- Worked rows of the readers of values, each by computing.
use Rattle.std.specs.Prelude.{◌≡◌, negsuc, [], ◌∷◌, refl, codes}
use Rattle.spec_value.specs.Tree.{num, text, items_of}
use Rattle.spec_syntax.specs.Reader.{read, fault, whole}
use Rattle.spec_syntax.specs.ValueReader.{read_nested}

-- a value of each form
forms : whole (read_nested 2 (codes "[-5,\"\\\"\\n\\x01a\",[]]"))
    ≡ read (items_of (num (negsuc 4) ∷ text (34 ∷ 10 ∷ 1 ∷ 97 ∷ []) ∷ items_of [] ∷ []))
unfolding read_nested
forms = refl

-- a list that is cut lacks its last sign, and a number stops before the digit that leaves its range
cut : whole (read_nested 2 (codes "[1,\"a")) ≡ fault 0
unfolding read_nested
cut = refl

too_great : whole (read_nested 2 (codes "9223372036854775808,")) ≡ fault 2
unfolding read_nested
too_great = refl

leading_zero : whole (read_nested 2 (codes "[01]")) ≡ fault 2
unfolding read_nested
leading_zero = refl

tab_by_hex : whole (read_nested 2 (codes "\"\\x09\"")) ≡ fault 2
unfolding read_nested
tab_by_hex = refl

too_deep : whole (read_nested 1 (codes "[[1]]")) ≡ fault 4
unfolding read_nested
too_deep = refl
