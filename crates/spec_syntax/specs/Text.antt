-- The grammar of texts.
use Rattle.std.specs.Prelude.{◌+◌, ◌-◌, ◌*◌, ◌==◌, ◌&&◌, ◌||◌, not, nat_le, ℕ, Bool, List, [], ◌∷◌, ◌++◌, if◌then◌else◌, codes}
use Rattle.spec_syntax.specs.Grammar.{Grammar, empty, class, mapped, either, after, closed, many, led, more_of}
use Rattle.spec_syntax.specs.Number.{between}

-- the bytes that continue a character of UTF-8, each by its least and its greatest value
abbrev pub continued : List (ℕ × ℕ) → Grammar (List ℕ)
continued [] = mapped (λ _. []) empty
continued (range ∷ ranges) = more_of (class (between range.0 range.1)) (continued ranges)

-- the first byte of a character from U+0020 on but the quote and the backslash
abbrev pub is_lead : ℕ → Bool
is_lead b = between 32 127 b && not (b == 34) && not (b == 92) || between 194 244 b

-- and how it goes on
abbrev pub after_lead : ℕ → List (ℕ × ℕ)
after_lead b =
    if nat_le b 127 then [] else
    if nat_le b 223 then (128, 191) ∷ [] else
    if b == 224 then (160, 191) ∷ (128, 191) ∷ [] else
    if b == 237 then (128, 159) ∷ (128, 191) ∷ [] else
    if nat_le b 239 then (128, 191) ∷ (128, 191) ∷ [] else
    if b == 240 then (144, 191) ∷ (128, 191) ∷ (128, 191) ∷ [] else
    if b == 244 then (128, 143) ∷ (128, 191) ∷ (128, 191) ∷ []
    else (128, 191) ∷ (128, 191) ∷ (128, 191) ∷ []

-- a character as it stands
abbrev pub plain : Grammar (List ℕ)
plain = mapped (λ b. b.0 ∷ b.1) (led is_lead (λ b. continued (after_lead b)))

abbrev pub is_hex : ℕ → Bool
is_hex d = between 48 57 d || between 97 102 d

abbrev pub hex_value : ℕ → ℕ
hex_value d = if nat_le d 57 then d - 48 else d - 87

-- the second hex digit of a byte below 32 other than 9 and 10, by the first
abbrev pub second_hex : ℕ → ℕ → Bool
second_hex c d = is_hex d && not (c == 48 && (d == 57 || d == 97))

abbrev pub hex_byte : Grammar ℕ
hex_byte =
    mapped (λ cd. hex_value cd.0 * 16 + hex_value cd.1)
    (led (between 48 49) (λ c. class (second_hex c)))

-- the byte that stands after the backslash for a quote, a backslash, a line feed or a tab
abbrev pub is_short : ℕ → Bool
is_short b = b == 34 || b == 92 || b == 110 || b == 116

abbrev pub short_for : ℕ → ℕ
short_for b = if b == 110 then 10 else if b == 116 then 9 else b

abbrev pub escape : Grammar ℕ
escape = either (after (codes "x") hex_byte) (mapped short_for (class is_short))

-- char = any character from U+0020 on but '"' and '\' | '\"' | '\\' | '\n' | '\t' | '\x' hex hex
abbrev pub char : Grammar (List ℕ)
char = either (mapped (λ b. b ∷ []) (after (codes "\\") escape)) plain

abbrev pub joined : List (List ℕ) → List ℕ
joined [] = []
joined (c ∷ cs) = c ++ joined cs

-- text = '"' {char} '"'
abbrev pub texts : Grammar (List ℕ)
texts = mapped joined (after (codes "\"") (closed (many char) (codes "\"")))
