-- The spelling of a value is spelled: the grammar has it.
use Rattle.std.proofs.Common.{◌≡◌, ◌⊎◌, ℕ, zero, suc, ℤ, pos, negsuc, ◌+◌, ◌-◌, ◌*◌, ◌/◌, ◌%◌, ◌^◌, ◌<◌, ◌≤◌, Bool, true, false, ◌&&◌, List, [], ◌∷◌, ◌++◌, length, take, get_or, refl, sym, ap, ◌∙◌, subst, inl, inr, arith, append-nil, codes}
use Rattle.std.specs.Prelude.{decimal, IsUtf8, FitsSigned}
use Rattle.std.specs.Int.{w64}
use Rattle.std.specs.Fmt.{signed_decimal}
use Rattle.std.proofs.lemmas.Bool.{cases_eq, cases_Bool, cases_lt, false≢true}
use Rattle.std.proofs.lemmas.Bool.Decides.{nat_tests}
use Rattle.std.proofs.lemmas.Fmt.{decimal_digit, decimal_step}
use Rattle.std.proofs.lemmas.Grind.{flat_map-append}
use Rattle.spec_value.specs.Tree.{Tree, num, text, items, Trees, none, more, trees, list, nesting, trees_nesting, list-trees, trees-list}
use Rattle.spec_syntax.specs.Grammar.{optional, after, many, listed}
use Rattle.spec_syntax.specs.ValueText.{hex_digit, spelled_byte, spelled_value, spelled_elements, spelled_others, spelled_list}
use Rattle.spec_syntax.specs.Number.{between, is_digit, longer, positive, natural, number}
use Rattle.spec_syntax.specs.Text.{continued, is_lead, after_lead, plain, is_hex, hex_value, second_hex, hex_byte, escape, char, joined, texts}
use Rattle.spec_syntax.specs.Value.{bracketed, list_of, leaf, value, any_value}
use Rattle.spec_syntax.specs.Proper.{IsProper, AreProper}
use Rattle.spec_syntax.proofs.Canonical.{spelled, plain_is, control_byte}
use Rattle.spec_syntax.proofs.Utf8.{one, two, three, four}
use Rattle.spec_syntax.specs.Language.{Spell}
use Rattle.spec_syntax.specs.Reader.{Verdict, read, fault, whole}
use Rattle.spec_syntax.proofs.Wholes.{IsVerdict}
use Rattle.spec_syntax.specs.ValueReader.{read_nested}
use Rattle.spec_syntax.proofs.Verdicts.{value_verdict}
use lib.Utf8.{scalar, scalars, encode, encodes}
use Rattle.spec_basics.proofs.Booleans.{and_parts}

-- one digit more at the end
longer_end : (top a n : ℕ) (ds : List ℕ) (d : ℕ) → longer top a n ds → is_digit d ≡ true → n * 10 + (d - 48) ≤ top → longer top a (n * 10 + (d - 48)) (ds ++ d ∷ [])
longer_end top a n [] d s e l = (e, omega (arith, s), ap (λ x. x * 10 + (d - 48)) s)
longer_end top a n (c ∷ ds) d s e l = (s.0, s.1, longer_end top (a * 10 + (c - 48)) n ds d s.2 e l)

digit_of : (n : ℕ) → n < 10 → is_digit (48 + n) ≡ true
digit_of n h = grind (arith, nat_tests)

first_of : (n : ℕ) → 0 < n → n < 10 → between 49 57 (48 + n) ≡ true
first_of n l h = grind (arith, nat_tests)

-- a number from 1 on is spelled in decimal
pub positive_decimal : (most top n : ℕ) → n ≤ most → 0 < n → n ≤ top → top < 2 ^ 64 → positive top n (decimal n)
positive_decimal zero top n h l m t = absurd (omega arith)
positive_decimal (suc most) top n h l m t = elim (cases_lt n 10) as (λ _. positive top n (decimal n)) [
  | inl small ↦
      let one : decimal n ≡ (48 + n) ∷ [] = decimal_digit n small in
      subst (positive top n) (sym one) ((48 + n, n), (first_of n l small, [], (let e : n ≡ (48 + n) - 48 = omega arith in e), refl), refl)
  | inr great ↦
      let more : decimal n ≡ decimal (n / 10) ++ (48 + n % 10) ∷ [] = decimal_step n great (omega arith) in
      let prefix : positive top (n / 10) (decimal (n / 10)) = positive_decimal most top (n / 10) (omega arith) (omega arith) (omega arith) t in
      let last : is_digit (48 + n % 10) ≡ true = digit_of (n % 10) (omega arith) in
      let whole : (n / 10) * 10 + ((48 + n % 10) - 48) ≡ n = omega arith in
      subst (λ x. positive top x (decimal n)) whole (subst (positive top ((n / 10) * 10 + ((48 + n % 10) - 48))) (sym more)
      (with_last top (n / 10) (48 + n % 10) (decimal (n / 10)) prefix last (omega arith)))
]
  where
    with_last : (top n d : ℕ) (t : List ℕ) → positive top n t → is_digit d ≡ true → n * 10 + (d - 48) ≤ top → positive top (n * 10 + (d - 48)) (t ++ d ∷ [])
    with_last top n d t s e l =
        ((s.0.0, n * 10 + (d - 48)), (s.1.0, s.1.1 ++ d ∷ [], subst (λ x. longer top (s.0.0 - 48) (x * 10 + (d - 48)) (s.1.1 ++ d ∷ [])) (sym s.2) (longer_end top (s.0.0 - 48) s.0.1 s.1.1 d s.1.2 e (omega (arith, s.2))), ap (λ x. x ++ d ∷ []) s.1.3), refl)

pub natural_decimal : (top n : ℕ) → n ≤ top → top < 2 ^ 64 → natural top n (decimal n)
natural_decimal top zero l t = subst (natural top 0) (sym (decimal_digit 0 (omega arith))) (inl (tt, refl, refl))
natural_decimal top (suc n) l t = inr (positive_decimal (suc n) top (suc n) (omega arith) (omega arith) l t)

pub number_spelled : (n : ℤ) → FitsSigned w64 n → number n (signed_decimal n)
number_spelled (pos n) h = inr (n, natural_decimal 9223372036854775807 n (omega arith) (omega arith), refl)
number_spelled (negsuc n) h =
    let one : positive 9223372036854775808 (suc n) (decimal (suc n)) = positive_decimal (suc n) 9223372036854775808 (suc n) (omega arith) (omega arith) (omega arith) (omega arith) in
    let same : negsuc n ≡ negsuc (suc n - 1) = let e : n ≡ suc n - 1 = omega arith in ap negsuc e in
    inl (suc n, ((tt, suc n), (codes "-", decimal (suc n), refl, one, refl), refl), same)

-- one byte of each range
abbrev InRanges : List (ℕ × ℕ) → List ℕ → Type 0
InRanges [] ys = ys ≡ []
InRanges (r ∷ ranges) [] = ⊥
InRanges (r ∷ ranges) (y ∷ ys) = (between r.0 r.1 y ≡ true) × InRanges ranges ys

continued_of : (ranges : List (ℕ × ℕ)) (ys : List ℕ) → InRanges ranges ys → continued ranges ys ys
continued_of [] ys h = (tt, h, h)
continued_of (r ∷ ranges) [] h = absurd h
continued_of (r ∷ ranges) (y ∷ ys) h = ((y, ys), (y ∷ [], ys, (h.0, refl), continued_of ranges ys h.1, refl), refl)

plain_of : (b : ℕ) (ys : List ℕ) (ranges : List (ℕ × ℕ)) → is_lead b ≡ true → after_lead b ≡ ranges → InRanges ranges ys → plain (b ∷ ys) (b ∷ ys)
plain_of b ys ranges e is h = ((b, ys), (e, ys, subst (λ r. continued r ys ys) (sym is) (continued_of ranges ys h), refl), refl)

char_of : (bs : List ℕ) → plain bs bs → char bs (spelled bs)
char_of bs s = subst (char bs) (plain_is bs bs s) (inr s)

within : (low high b : ℕ) → low ≤ b → b ≤ high → between low high b ≡ true
within low high b l m = grind (arith, nat_tests)

high_lead : (b : ℕ) → 194 ≤ b → b ≤ 244 → is_lead b ≡ true
high_lead b l m = grind (arith, nat_tests)

lead_two : (b : ℕ) → 128 ≤ b → b ≤ 223 → after_lead b ≡ (128, 191) ∷ []
lead_two b l m = grind (arith, nat_tests)

lead_three : (b : ℕ) → 225 ≤ b → b ≤ 239 → (b ≡ 237 → ⊥) → after_lead b ≡ (128, 191) ∷ (128, 191) ∷ []
lead_three b l m ne = grind (arith, nat_tests)

lead_four : (b : ℕ) → 241 ≤ b → b ≤ 243 → after_lead b ≡ (128, 191) ∷ (128, 191) ∷ (128, 191) ∷ []
lead_four b l m = grind (arith, nat_tests)

two_char : (q r : ℕ) → 2 ≤ q → q < 32 → r < 64 → plain ((192 + q) ∷ (128 + r) ∷ []) ((192 + q) ∷ (128 + r) ∷ [])
two_char q r l h g = plain_of (192 + q) ((128 + r) ∷ []) ((128, 191) ∷ []) (high_lead (192 + q) (omega arith) (omega arith)) (lead_two (192 + q) (omega arith) (omega arith)) (within 128 191 (128 + r) (omega arith) (omega arith), refl)

three_char : (p q r : ℕ) → p < 16 → q < 64 → r < 64 → 2048 ≤ (p * 64 + q) * 64 + r → (((p * 64 + q) * 64 + r < 55296) ⊎ (57344 ≤ (p * 64 + q) * 64 + r)) → plain ((224 + p) ∷ (128 + q) ∷ (128 + r) ∷ []) ((224 + p) ∷ (128 + q) ∷ (128 + r) ∷ [])
three_char p q r h g k l scalar =
    let b = 224 + p in
    let rest = (128 + q) ∷ (128 + r) ∷ [] in
    let lead : is_lead b ≡ true = high_lead b (omega arith) (omega arith) in
    elim (cases_eq p 0) as (λ _. plain (b ∷ rest) (b ∷ rest)) [
      | inl e ↦ plain_of b rest ((160, 191) ∷ (128, 191) ∷ []) lead (ap (λ x. after_lead (224 + x)) e) (within 160 191 (128 + q) (omega arith) (omega arith), (within 128 191 (128 + r) (omega arith) (omega arith), refl))
      | inr some ↦ elim (cases_eq p 13) as (λ _. plain (b ∷ rest) (b ∷ rest)) [
        | inl e ↦
            let small : q < 32 = elim scalar as (λ _. q < 32) [ inl u ↦ omega arith | inr u ↦ absurd (omega arith) ] in
            plain_of b rest ((128, 159) ∷ (128, 191) ∷ []) lead (ap (λ x. after_lead (224 + x)) e) (within 128 159 (128 + q) (omega arith) (omega arith), (within 128 191 (128 + r) (omega arith) (omega arith), refl))
        | inr other ↦
            plain_of b rest ((128, 191) ∷ (128, 191) ∷ []) lead (lead_three b (omega arith) (omega arith) (λ e. other (omega arith))) (within 128 191 (128 + q) (omega arith) (omega arith), (within 128 191 (128 + r) (omega arith) (omega arith), refl))
      ]
    ]

four_char : (o p q r : ℕ) → o < 5 → p < 64 → q < 64 → r < 64 → 65536 ≤ ((o * 64 + p) * 64 + q) * 64 + r → ((o * 64 + p) * 64 + q) * 64 + r < 1114112 → plain ((240 + o) ∷ (128 + p) ∷ (128 + q) ∷ (128 + r) ∷ []) ((240 + o) ∷ (128 + p) ∷ (128 + q) ∷ (128 + r) ∷ [])
four_char o p q r n h g k l most =
    let b = 240 + o in
    let rest = (128 + p) ∷ (128 + q) ∷ (128 + r) ∷ [] in
    let lead : is_lead b ≡ true = high_lead b (omega arith) (omega arith) in
    let last : InRanges ((128, 191) ∷ (128, 191) ∷ []) ((128 + q) ∷ (128 + r) ∷ []) = (within 128 191 (128 + q) (omega arith) (omega arith), (within 128 191 (128 + r) (omega arith) (omega arith), refl)) in
    elim (cases_eq o 0) as (λ _. plain (b ∷ rest) (b ∷ rest)) [
      | inl e ↦ plain_of b rest ((144, 191) ∷ (128, 191) ∷ (128, 191) ∷ []) lead (ap (λ x. after_lead (240 + x)) e) (within 144 191 (128 + p) (omega arith) (omega arith), last)
      | inr some ↦ elim (cases_eq o 4) as (λ _. plain (b ∷ rest) (b ∷ rest)) [
        | inl e ↦ plain_of b rest ((128, 143) ∷ (128, 191) ∷ (128, 191) ∷ []) lead (ap (λ x. after_lead (240 + x)) e) (within 128 143 (128 + p) (omega arith) (omega arith), last)
        | inr other ↦ plain_of b rest ((128, 191) ∷ (128, 191) ∷ (128, 191) ∷ []) lead (lead_four b (omega arith) (omega arith)) (within 128 191 (128 + p) (omega arith) (omega arith), last)
      ]
    ]

hex_back : (n : ℕ) → n < 16 → (is_hex (hex_digit n) ≡ true) × (hex_value (hex_digit n) ≡ n)
hex_back n h = (grind (arith, nat_tests), grind (arith, nat_tests))

first_back : (n : ℕ) → n < 2 → (between 48 49 (hex_digit n) ≡ true) × (hex_value (hex_digit n) ≡ n)
first_back n h = (grind (arith, nat_tests), grind (arith, nat_tests))

second_zero : (r : ℕ) → r < 16 → (r ≡ 9 → ⊥) → (r ≡ 10 → ⊥) → second_hex 48 (hex_digit r) ≡ true
second_zero r h f g = grind (arith, nat_tests)

second_one : (r : ℕ) → r < 16 → second_hex 49 (hex_digit r) ≡ true
second_one r h = grind (arith, nat_tests)

second_of : (q r : ℕ) → q < 2 → r < 16 → (q * 16 + r ≡ 9 → ⊥) → (q * 16 + r ≡ 10 → ⊥) → second_hex (hex_digit q) (hex_digit r) ≡ true
second_of zero r l h f g = second_zero r h (λ e. f (omega (arith, e))) (λ e. g (omega (arith, e)))
second_of (suc zero) r l h f g = second_one r h
second_of (suc (suc q)) r l h f g = absurd (omega arith)

-- a byte below 32 by its two digits
hex_of : (c : ℕ) → c < 32 → (c ≡ 9 → ⊥) → (c ≡ 10 → ⊥) → hex_byte c (hex_digit (c / 16) ∷ hex_digit (c % 16) ∷ [])
hex_of c h f g =
    let q = c / 16 in
    let r = c % 16 in
    let parts : q * 16 + r ≡ c = omega arith in
    let first = first_back q (omega arith) in
    let second = hex_back r (omega arith) in
    let both : second_hex (hex_digit q) (hex_digit r) ≡ true = second_of q r (omega arith) (omega arith) (λ e. f (omega (arith, e))) (λ e. g (omega (arith, e))) in
    let is : c ≡ hex_value (hex_digit q) * 16 + hex_value (hex_digit r) = omega (arith, first.1, second.1) in
    ((hex_digit q, hex_digit r), (first.0, hex_digit r ∷ [], (both, refl), refl), is)

low_byte : (c : ℕ) → is_lead c ≡ false → c < 128 → (c ≡ 34 → ⊥) → (c ≡ 92 → ⊥) → c < 32
low_byte c e l f g = grind (arith, nat_tests)

lead_one : (c : ℕ) → c < 128 → after_lead c ≡ []
lead_one c l = grind (arith, nat_tests)

abbrev one_byte : ℕ → List ℕ
one_byte b = b ∷ []

escaped : (c : ℕ) (e : List ℕ) → escape c e → char (c ∷ []) (92 ∷ e)
escaped c e s = inl (c, ((tt, c), (92 ∷ [], e, refl, s, refl), refl), refl)

escape_char : (c : ℕ) → is_lead c ≡ false → c < 128 → char (c ∷ []) (spelled_byte c)
escape_char c lead l = elim (cases_eq c 34) as (λ _. char (c ∷ []) (spelled_byte c)) [
  | inl e ↦ subst (λ b. char (b ∷ []) (spelled_byte b)) (sym e) (escaped 34 (34 ∷ []) (inr (34, (refl, refl), refl)))
  | inr quoteless ↦ elim (cases_eq c 92) as (λ _. char (c ∷ []) (spelled_byte c)) [
    | inl e ↦ subst (λ b. char (b ∷ []) (spelled_byte b)) (sym e) (escaped 92 (92 ∷ []) (inr (92, (refl, refl), refl)))
    | inr other ↦ elim (cases_eq c 10) as (λ _. char (c ∷ []) (spelled_byte c)) [
      | inl e ↦ subst (λ b. char (b ∷ []) (spelled_byte b)) (sym e) (escaped 10 (110 ∷ []) (inr (110, (refl, refl), refl)))
      | inr no_feed ↦ elim (cases_eq c 9) as (λ _. char (c ∷ []) (spelled_byte c)) [
        | inl e ↦ subst (λ b. char (b ∷ []) (spelled_byte b)) (sym e) (escaped 9 (116 ∷ []) (inr (116, (refl, refl), refl)))
        | inr no_tab ↦
            let small : c < 32 = low_byte c lead l quoteless other in
            let digits = hex_digit (c / 16) ∷ hex_digit (c % 16) ∷ [] in
            subst (char (c ∷ [])) (sym (control_byte c small no_feed no_tab))
            (escaped c (120 ∷ digits) (inl ((tt, c), (codes "x", digits, refl, hex_of c small no_tab no_feed, refl), refl)))
      ]
    ]
  ]
]

ascii_char : (c : ℕ) → c < 128 → char (c ∷ []) (spelled (c ∷ []))
ascii_char c l = elim (cases_Bool (is_lead c)) as (λ _. char (c ∷ []) (spelled (c ∷ []))) [
  | inl e ↦ char_of (c ∷ []) (plain_of c [] [] e (lead_one c l) refl)
  | inr e ↦ subst (char (c ∷ [])) (sym (append-nil (spelled_byte c))) (escape_char c e l)
]

scalar_most : (c : ℕ) → scalar c ≡ true → c < 1114112
scalar_most c h = grind (arith, nat_tests)

scalar_outside : (c : ℕ) → scalar c ≡ true → 55296 ≤ c → 57344 ≤ c
scalar_outside c h l = grind (arith, nat_tests)

-- each character is spelled
abbrev IsSpelled : List ℕ → Type 0
IsSpelled bs = char bs (spelled bs)

char_scalar : (c : ℕ) → scalar c ≡ true → IsSpelled (encode c)
char_scalar c h = elim (cases_lt c 128) as (λ _. IsSpelled (encode c)) [
  | inl l ↦ subst IsSpelled (sym (one c l)) (ascii_char c l)
  | inr g ↦ elim (cases_lt c 2048) as (λ _. IsSpelled (encode c)) [
    | inl l ↦
        let q = c / 64 in
        let r = c % 64 in
        let parts : q * 64 + r ≡ c = omega arith in
        subst (λ x. IsSpelled (encode x)) parts (subst IsSpelled (sym (two q r (omega arith) (omega arith) (omega arith))) (char_of ((192 + q) ∷ (128 + r) ∷ []) (two_char q r (omega arith) (omega arith) (omega arith))))
    | inr k ↦ elim (cases_lt c 65536) as (λ _. IsSpelled (encode c)) [
      | inl l ↦
          let p = c / 4096 in
          let q = (c / 64) % 64 in
          let r = c % 64 in
          let parts : (p * 64 + q) * 64 + r ≡ c = omega arith in
          let outside : ((p * 64 + q) * 64 + r < 55296) ⊎ (57344 ≤ (p * 64 + q) * 64 + r) = elim (cases_lt c 55296) as (λ _. ((p * 64 + q) * 64 + r < 55296) ⊎ (57344 ≤ (p * 64 + q) * 64 + r)) [
            | inl u ↦ inl (omega arith)
            | inr u ↦ inr (omega (arith, scalar_outside c h (omega arith)))
          ] in
          subst (λ x. IsSpelled (encode x)) parts
          (subst IsSpelled (sym (three p q r (omega arith) (omega arith) (omega arith) (omega arith)))
          (char_of ((224 + p) ∷ (128 + q) ∷ (128 + r) ∷ []) (three_char p q r (omega arith) (omega arith) (omega arith) (omega arith) outside)))
      | inr l ↦
          let o = c / 262144 in
          let p = (c / 4096) % 64 in
          let q = (c / 64) % 64 in
          let r = c % 64 in
          let most : c < 1114112 = scalar_most c h in
          let parts : ((o * 64 + p) * 64 + q) * 64 + r ≡ c = omega arith in
          subst (λ x. IsSpelled (encode x)) parts
          (subst IsSpelled (sym (four o p q r (omega arith) (omega arith) (omega arith) (omega arith) (omega arith)))
          (char_of ((240 + o) ∷ (128 + p) ∷ (128 + q) ∷ (128 + r) ∷ []) (four_char o p q r (omega arith) (omega arith) (omega arith) (omega arith) (omega arith) (omega arith))))
    ]
  ]
]

-- the characters of a text
abbrev CharsOf : List ℕ → Type 0
CharsOf cs = (chars : List (List ℕ)) × many char chars (spelled (joined chars)) × (joined chars ≡ encodes cs)

chars_of : (cs : List ℕ) → scalars cs ≡ true → CharsOf cs
chars_of [] h = ([], refl, refl)
chars_of (c ∷ cs) h =
    let parts = and_parts (scalar c) (scalars cs) h in
    let rest : CharsOf cs = chars_of cs parts.1 in (
      encode c ∷ rest.0,
      (spelled (encode c), spelled (joined rest.0), char_scalar c parts.0, rest.1, flat_map-append spelled_byte (encode c) (joined rest.0)),
      ap (λ x. encode c ++ x) rest.2,
    )

text_in : (chars : List (List ℕ)) → many char chars (spelled (joined chars)) → texts (joined chars) (spelled_value (text (joined chars)))
text_in chars s = (chars, ((tt, chars), (34 ∷ [], spelled (joined chars) ++ 34 ∷ [], refl, ((chars, tt), (spelled (joined chars), 34 ∷ [], s, refl, refl), refl), refl), refl), refl)

pub text_spelled : (bs : List ℕ) → IsUtf8 bs → texts bs (spelled_value (text bs))
text_spelled bs h =
    let chars : CharsOf h.0 = chars_of h.0 h.1.0 in
    subst (λ x. texts x (spelled_value (text x))) (chars.2 ∙ h.1.1) (text_in chars.0 chars.1)

leaf_in : (depth : ℕ) (t : Tree) (bs : List ℕ) → leaf t bs → value depth t bs
unfolding value
leaf_in zero t bs s = s
leaf_in (suc depth) t bs s = inr s

list_in : (depth : ℕ) (t : Tree) (bs : List ℕ) → list_of (value depth) t bs → value (suc depth) t bs
unfolding value
list_in depth t bs s = inl s

enclosed : (depth : ℕ) (ts : Trees) → optional [] (listed (value depth) (codes ",")) (list ts) (spelled_elements ts) → list_of (value depth) (items ts) (spelled_value (items ts))
enclosed depth ts s =
    (list ts, ((tt, list ts), (91 ∷ [], spelled_elements ts ++ 93 ∷ [], refl, ((list ts, tt), (spelled_elements ts, 93 ∷ [], s, refl, refl), refl), refl), refl), ap items (sym (trees-list ts)))

mutual
  value_at : (t : Tree) → IsProper t → (depth : ℕ) → nesting t ≤ depth → value depth t (spelled_value t)
  value_at (num n) h depth l = leaf_in depth (num n) (spelled_value (num n)) (inr (n, number_spelled n h, refl))
  value_at (text bs) h depth l = leaf_in depth (text bs) (spelled_value (text bs)) (inl (bs, text_spelled bs h, refl))
  value_at (items ts) h zero l = absurd (omega arith)
  value_at (items ts) h (suc depth) l = list_in depth (items ts) (spelled_value (items ts)) (enclosed depth ts (elements_at ts h depth (omega arith)))

  elements_at : (ts : Trees) → AreProper ts → (depth : ℕ) → trees_nesting ts ≤ depth → optional [] (listed (value depth) (codes ",")) (list ts) (spelled_elements ts)
  elements_at none h depth l = inr (tt, refl, refl)
  elements_at (more t ts) h depth l =
      inl ((t, list ts), (spelled_value t, spelled_others ts, value_at t h.0 depth (omega arith), others_at ts h.1 depth (omega arith), refl), refl)

  others_at : (ts : Trees) → AreProper ts → (depth : ℕ) → trees_nesting ts ≤ depth → many (after (codes ",") (value depth)) (list ts) (spelled_others ts)
  others_at none h depth l = refl
  others_at (more t ts) h depth l =
      (44 ∷ spelled_value t, spelled_others ts, ((tt, t), (44 ∷ [], spelled_value t, refl, value_at t h.0 depth (omega arith), refl), refl), others_at ts h.1 depth (omega arith), refl)

-- a value that nests no deeper is spelled within that depth
pub value_spelled : (t : Tree) → IsProper t → (depth : ℕ) → nesting t ≤ depth → value depth t (spelled_value t)
value_spelled t h depth l = value_at t h depth l

-- so are the values of a list
pub values_spelled : (vs : List Tree) → AreProper (trees vs) → (depth : ℕ) → trees_nesting (trees vs) ≤ depth → bracketed (value depth) vs (spelled_list vs)
values_spelled vs h depth l =
    let inside : optional [] (listed (value depth) (codes ",")) vs (spelled_elements (trees vs)) =
    subst (λ us. optional [] (listed (value depth) (codes ",")) us (spelled_elements (trees vs))) (list-trees vs) (elements_at (trees vs) h depth l) in
    ((tt, vs), (91 ∷ [], spelled_elements (trees vs) ++ 93 ∷ [], refl, ((vs, tt), (spelled_elements (trees vs), 93 ∷ [], inside, refl, refl), refl), refl), refl)

pub any_spelled : (t : Tree) → IsProper t → any_value t (spelled_value t)
any_spelled t h = (nesting t, value_at t h (nesting t) (omega arith))

one_of : (bs : List ℕ) (verdict : Verdict Tree) → IsVerdict any_value bs verdict → (a b : Tree) → any_value a bs → any_value b bs → a ≡ b
one_of bs (read c) v a b s t = v.alone a s ∙ sym (v.alone b t)
one_of bs (fault left) v a b s t = absurd (v.0 a s)

-- a value's spelling spells it, and nothing else
pub reads_back : (t : Tree) → IsProper t → Spell any_value (spelled_value t) t
reads_back t h =
    let s : any_value t (spelled_value t) = any_spelled t h in
    record { spelled = s; alone = λ b r. one_of (spelled_value t) (whole (read_nested (length (spelled_value t)) (spelled_value t))) (value_verdict (spelled_value t)) b t r s }

-- one value more
proper_here : (t u : Tree) → u ≡ t → IsProper u → IsProper t
proper_here t u e h = subst IsProper e h

pub proper_more : (ts : List Tree) (k : ℕ) (t : Tree) → k < length ts → t ≡ get_or ts k t → AreProper (trees (take k ts)) → IsProper t → AreProper (trees (take (suc k) ts))
proper_more [] k t l e h p = absurd (omega arith)
proper_more (u ∷ ts) zero t l e h p = (proper_here u t e p, tt)
proper_more (u ∷ ts) (suc k) t l e h p = (h.0, proper_more ts k t (omega arith) e h.1 p)

pub proper_all : (ts : List Tree) (k : ℕ) → length ts ≤ k → AreProper (trees (take k ts)) → AreProper (trees ts)
proper_all [] k l h = tt
proper_all (t ∷ ts) zero l h = absurd (omega arith)
proper_all (t ∷ ts) (suc k) l h = (h.0, proper_all ts k (omega arith) h.1)
