-- Readers of values on lists of bytes.
use Rattle.std.specs.Prelude.{◌+◌, ◌-◌, ◌*◌, ◌==◌, ◌&&◌, ◌||◌, nat_le, ℕ, zero, suc, ℤ, pos, Bool, List, [], ◌∷◌, ◌++◌, length, if◌then◌else◌, codes}
use Rattle.spec_value.specs.Tree.{Tree, num, text, items_of}
use Rattle.spec_syntax.specs.Reader.{found, Reader, nothing, byte_of, read_word, made_of, seq, after_word, close, or_else, all_of, folded, lead}
use Rattle.spec_syntax.specs.Number.{between, is_digit, negative}
use Rattle.spec_syntax.specs.Text.{is_lead, after_lead, hex_value, second_hex, is_short, short_for, joined}

-- a class of one byte
abbrev pub is : ℕ → ℕ → Bool
is c b = b == c

abbrev pub read_longer : ℕ → ℕ → Reader ℕ
read_longer top a [] = found a []
read_longer top a (d ∷ ds) =
    if is_digit d && nat_le (a * 10 + (d - 48)) top then read_longer top (a * 10 + (d - 48)) ds
    else found a (d ∷ ds)

abbrev pub read_positive : ℕ → Reader ℕ
read_positive top = made_of (λ by. by.1) (lead (between 49 57) (λ d. read_longer top (d - 48)))

abbrev pub read_natural : ℕ → Reader ℕ
read_natural top = or_else (is 48) (made_of (λ _. 0) (read_word (codes "0"))) (read_positive top)

abbrev pub read_number : Reader ℤ
read_number =
    or_else (is 45) (made_of negative (after_word (codes "-") (read_positive 9223372036854775808)))
    (made_of pos (read_natural 9223372036854775807))

abbrev pub read_continued : List (ℕ × ℕ) → Reader (List ℕ)
read_continued [] = made_of (λ _. []) nothing
read_continued (range ∷ ranges) =
    made_of (λ b. b.0 ∷ b.1) (seq (byte_of (between range.0 range.1)) (read_continued ranges))

abbrev pub read_plain : Reader (List ℕ)
read_plain = made_of (λ b. b.0 ∷ b.1) (lead is_lead (λ b. read_continued (after_lead b)))

abbrev pub read_hex_byte : Reader ℕ
read_hex_byte =
    made_of (λ cd. hex_value cd.0 * 16 + hex_value cd.1)
    (lead (between 48 49) (λ c. byte_of (second_hex c)))

abbrev pub read_escape : Reader ℕ
read_escape =
    or_else (is 120) (after_word (codes "x") read_hex_byte) (made_of short_for (byte_of is_short))

abbrev pub read_char : Reader (List ℕ)
read_char = or_else (is 92) (made_of (λ b. b ∷ []) (after_word (codes "\\") read_escape)) read_plain

-- whether a character may begin with the byte
abbrev pub begins_char : ℕ → Bool
begins_char b = is_lead b || is 92 b

abbrev pub read_text : Reader (List ℕ)
read_text =
    made_of joined (after_word (codes "\"") (close (all_of begins_char read_char) (codes "\"")))

-- the bytes of the characters ahead, put together one by one
abbrev pub read_chars : Reader (List ℕ)
read_chars bs = folded ◌++◌ [] (length bs) begins_char read_char bs

abbrev pub read_leaf : Reader Tree
read_leaf = or_else (is 34) (made_of text read_text) (made_of num read_number)

abbrev pub read_elements : {A : Type 0} → Reader A → Reader (List A)
read_elements r =
    or_else (is 93) (found [])
    (made_of (λ b. b.0 ∷ b.1) (seq r (all_of (is 44) (after_word (codes ",") r))))

abbrev pub snoc : {A : Type 0} → List A → A → List A
snoc list t = list ++ t ∷ []

-- the elements after those that there are, put to them one by one
abbrev pub read_others : {A : Type 0} → Reader A → List A → Reader (List A)
read_others r list bs = folded snoc list (length bs) (is 44) (after_word (codes ",") r) bs

abbrev pub read_bracketed : {A : Type 0} → Reader A → Reader (List A)
read_bracketed r = after_word (codes "[") (close (read_elements r) (codes "]"))

abbrev pub read_list : Reader Tree → Reader Tree
read_list r = made_of items_of (read_bracketed r)

-- a value nested at most so deep
unfoldable pub read_nested : ℕ → Reader Tree
read_nested zero bs = read_leaf bs
read_nested (suc depth) bs = or_else (is 91) (read_list (read_nested depth)) read_leaf bs
