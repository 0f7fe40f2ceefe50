-- Words, names, numbers and texts may stand in a line.
use Rattle.std.proofs.Common.{◌≡◌, ◌∙◌, ◌==◌, ◌+◌, ◌/◌, ◌%◌, ◌^◌, ◌≤◌, ◌<◌, ◌&&◌, ℕ, ℤ, pos, negsuc, zero, suc, Bool, true, false, not, cond, List, [], ◌∷◌, ◌++◌, refl, sym, ap, subst, inl, inr, arith, append-nil, codes}
use Rattle.std.specs.Prelude.{decimal, nat_lt, flat_map, FitsSigned, IsTrue}
use Rattle.std.specs.Int.{w64}
use Rattle.std.specs.Fmt.{signed_decimal}
use Rattle.std.specs.Str.{IsUtf8}
use Rattle.std.specs.List.{list_all}
use Rattle.std.proofs.lemmas.Bool.{cases_lt, and_parts}
use Rattle.std.proofs.lemmas.Bool.Decides.{nat_tests}
use Rattle.std.proofs.lemmas.Fmt.{decimal_digit, decimal_step}
use Rattle.std.proofs.lemmas.Grind.{flat_map-append}
use Rattle.std.proofs.lemmas.Str.{IsUtf8-encode}
use lib.Utf8.{encode, encodes, scalar, scalars}
use Rattle.spec_lang.specs.Name.{is_name, is_name_byte}
use Rattle.spec_syntax.specs.ValueText.{hex_digit, spelled_byte}
use Rattle.spec_syntax.proofs.BlockTexts.{AllHigh, one_byte, high}
use Rattle.spec_syntax.proofs.Names.{name_bytes}
use Rattle.spec_syntax.proofs.Utf8.{ascii_utf8}
use Rattle.spec_plan_texts.proofs.Fine.{IsNoFeed, HasNoFeed, IsFine, fine_nil, fine_append}
use Rattle.spec_syntax.proofs.Canonical.{high_byte}

pub one_fine : (b : ℕ) → b < 128 → IsNoFeed b → IsFine (b ∷ [])
one_fine b l e = record { utf8 = ascii_utf8 b l; no_feed = (e, tt) }

-- a byte of ASCII other than a line feed
abbrev pub is_plain : ℕ → Bool
is_plain b = nat_lt b 128 && not (b == 10)

plain_low : (b : ℕ) → is_plain b ≡ true → b < 128
plain_low b h = grind (arith, nat_tests)

plain_no_feed : (b : ℕ) → is_plain b ≡ true → IsNoFeed b
plain_no_feed b h = grind (arith, nat_tests)

pub word_fine : (w : List ℕ) → list_all is_plain w ≡ true → IsFine w
word_fine [] h = fine_nil
word_fine (b ∷ w) h =
    let parts = and_parts (is_plain b) (list_all is_plain w) h in
    fine_append (b ∷ []) w (one_fine b (plain_low b parts.0) (plain_no_feed b parts.0)) (word_fine w parts.1)

name_byte_low : (b : ℕ) → is_name_byte b ≡ true → b < 128
name_byte_low b h = grind (arith, nat_tests)

name_byte_no_feed : (b : ℕ) → is_name_byte b ≡ true → IsNoFeed b
name_byte_no_feed b h = grind (arith, nat_tests)

name_bytes_fine : (n : List ℕ) → list_all is_name_byte n ≡ true → IsFine n
name_bytes_fine [] h = fine_nil
name_bytes_fine (b ∷ n) h =
    let parts = and_parts (is_name_byte b) (list_all is_name_byte n) h in
    fine_append (b ∷ []) n (one_fine b (name_byte_low b parts.0) (name_byte_no_feed b parts.0))
    (name_bytes_fine n parts.1)

pub name_fine : (n : List ℕ) → IsTrue (is_name n) → IsFine n
name_fine n h = name_bytes_fine n (name_bytes n h)

digit_no_feed : (d : ℕ) → d < 10 → IsNoFeed (48 + d)
digit_no_feed d l = grind (arith, nat_tests)

digit_fine : (d : ℕ) → d < 10 → IsFine ((48 + d) ∷ [])
digit_fine d l = one_fine (48 + d) (omega (arith, l)) (digit_no_feed d l)

decimal_upto : (most n : ℕ) → n ≤ most → n < 2 ^ 64 → IsFine (decimal n)
decimal_upto zero n h l = let none : n ≡ 0 = omega (arith, h) in subst (λ k. IsFine (decimal k)) (sym none)
    (subst IsFine (sym (decimal_digit 0 (omega arith))) (digit_fine 0 (omega arith)))
decimal_upto (suc most) n h l = elim (cases_lt n 10) as (λ _. IsFine (decimal n)) [
  | inl small ↦ subst IsFine (sym (decimal_digit n small)) (digit_fine n small)
  | inr great ↦
      subst IsFine (sym (decimal_step n great l))
      (fine_append (decimal (n / 10)) ((48 + n % 10) ∷ [])
      (decimal_upto most (n / 10) (omega (arith, h, great)) (omega (arith, l))) (digit_fine (n % 10) (omega arith)))
]

pub decimal_fine : (n : ℕ) → n < 2 ^ 64 → IsFine (decimal n)
decimal_fine n l = decimal_upto n n (omega arith) l

pub signed_fine : (z : ℤ) → FitsSigned w64 z → IsFine (signed_decimal z)
signed_fine (pos n) h = decimal_fine n (omega arith)
signed_fine (negsuc n) h = fine_append (45 ∷ []) (decimal (suc n)) (word_fine (45 ∷ []) refl)
    (decimal_fine (suc n) (omega arith))

fine_if : (t : Bool) (u v : List ℕ) → IsFine u → IsFine v → IsFine (cond t u v)
fine_if true u v h k = h
fine_if false u v h k = k

hex_low : (n : ℕ) → n < 16 → hex_digit n < 128
hex_low n l = grind (arith, nat_tests)

hex_no_feed : (n : ℕ) → n < 16 → IsNoFeed (hex_digit n)
hex_no_feed n l = grind (arith, nat_tests)

hex_fine : (n : ℕ) → n < 16 → IsFine (hex_digit n ∷ [])
hex_fine n l = one_fine (hex_digit n) (hex_low n l) (hex_no_feed n l)

byte_fine : (b : ℕ) → b < 128 → IsFine (spelled_byte b)
byte_fine b l =
    fine_if (b == 34) (codes "\\\"") _ (word_fine (codes "\\\"") refl)
    (fine_if (b == 92) (codes "\\\\") _ (word_fine (codes "\\\\") refl) (by (b == 10) refl))
  where
    by : (t : Bool) → (b == 10) ≡ t
        → IsFine (cond t (codes "\\n")
        (cond (b == 9) (codes "\\t")
        (cond (nat_lt b 32) (codes "\\x" ++ hex_digit (b / 16) ∷ hex_digit (b % 16) ∷ []) (b ∷ []))))
    by true e = word_fine (codes "\\n") refl
    by false e =
        fine_if (b == 9) (codes "\\t") _ (word_fine (codes "\\t") refl)
        (fine_if (nat_lt b 32) (codes "\\x" ++ hex_digit (b / 16) ∷ hex_digit (b % 16) ∷ []) (b ∷ [])
        (fine_append (codes "\\x") (hex_digit (b / 16) ∷ hex_digit (b % 16) ∷ []) (word_fine (codes "\\x") refl)
        (fine_append (hex_digit (b / 16) ∷ []) (hex_digit (b % 16) ∷ []) (hex_fine (b / 16) (omega (arith, l)))
        (hex_fine (b % 16) (omega arith))))
        (one_fine b l e))

    not_low : (b : ℕ) → 128 ≤ b → nat_lt b 32 ≡ false
    not_low b h = grind (arith, nat_tests)

high_same : (bs : List ℕ) → AllHigh bs → flat_map spelled_byte bs ≡ bs
high_same [] h = refl
high_same (b ∷ bs) h = ap (λ x. x ++ flat_map spelled_byte bs) (high_byte b h.0) ∙ ap (λ x. b ∷ x) (high_same bs h.1)

high_no_feed : (bs : List ℕ) → AllHigh bs → HasNoFeed bs
high_no_feed [] h = tt
high_no_feed (b ∷ bs) h = (one b h.0, high_no_feed bs h.1)
  where
    one : (b : ℕ) → 128 ≤ b → IsNoFeed b
    one b l = grind (arith, nat_tests)

char_fine : (c : ℕ) → scalar c ≡ true → IsFine (flat_map spelled_byte (encode c))
char_fine c s = elim (cases_lt c 128) as (λ _. IsFine (flat_map spelled_byte (encode c))) [
  | inl low ↦ subst (λ bs. IsFine (flat_map spelled_byte bs)) (sym (one_byte c low))
      (subst IsFine (sym (append-nil (spelled_byte c))) (byte_fine c low))
  | inr great ↦
      let bytes = high c great in
      subst IsFine (sym (high_same (encode c) bytes))
      (record { utf8 = IsUtf8-encode c s; no_feed = high_no_feed (encode c) bytes })
]

chars_fine : (cs : List ℕ) → scalars cs ≡ true → IsFine (flat_map spelled_byte (encodes cs))
chars_fine [] h = fine_nil
chars_fine (c ∷ cs) h =
    let parts = and_parts (scalar c) (scalars cs) h in
    subst IsFine (sym (flat_map-append spelled_byte (encode c) (encodes cs)))
    (fine_append (flat_map spelled_byte (encode c)) (flat_map spelled_byte (encodes cs)) (char_fine c parts.0)
    (chars_fine cs parts.1))

-- the inside of a text
pub text_fine : (bs : List ℕ) → IsUtf8 bs → IsFine (flat_map spelled_byte bs)
text_fine bs h = subst (λ x. IsFine (flat_map spelled_byte x)) h.1.1 (chars_fine h.0 h.1.0)
