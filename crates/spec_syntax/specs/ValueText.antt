-- The one spelling of a value.
use Rattle.std.specs.Prelude.{ℕ, ◌+◌, ◌/◌, ◌%◌, ◌==◌, nat_lt, if◌then◌else◌, List, [], ◌∷◌, ◌++◌, codes, flat_map}
use Rattle.std.specs.Fmt.{signed_decimal}
use Rattle.spec_value.specs.Tree.{Tree, num, text, items, Trees, none, more, items_of}

-- a digit below sixteen, in lower case
abbrev pub hex_digit : ℕ → ℕ
hex_digit n = if nat_lt n 10 then n + 48 else n + 87

-- A byte of a text: quotes and backslashes are escaped, so are line feeds, tabs and all other bytes below 32.
abbrev pub spelled_byte : ℕ → List ℕ
spelled_byte b =
    if b == 34 then codes "\\\"" else
    if b == 92 then codes "\\\\" else
    if b == 10 then codes "\\n" else
    if b == 9 then codes "\\t" else
    if nat_lt b 32 then codes "\\x" ++ hex_digit (b / 16) ∷ hex_digit (b % 16) ∷ [] else b ∷ []

abbrev mutual
  -- a number in decimal, a text in quotes, a list in brackets
  pub spelled_value : Tree → List ℕ
  spelled_value (num n) = signed_decimal n
  spelled_value (text bytes) = 34 ∷ flat_map spelled_byte bytes ++ 34 ∷ []
  spelled_value (items ts) = 91 ∷ spelled_elements ts ++ 93 ∷ []

  -- the elements of a list, commas between them
  pub spelled_elements : Trees → List ℕ
  spelled_elements none = []
  spelled_elements (more t ts) = spelled_value t ++ spelled_others ts

  -- the elements after the first one, a comma before each
  pub spelled_others : Trees → List ℕ
  spelled_others none = []
  spelled_others (more t ts) = 44 ∷ spelled_value t ++ spelled_others ts

-- the list value of these elements
abbrev pub spelled_list : List Tree → List ℕ
spelled_list values = spelled_value (items_of values)
