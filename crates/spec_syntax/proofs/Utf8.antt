-- What is spelled as a text is UTF-8.
use Rattle.std.proofs.Common.{◌≡◌, ◌⊎◌, ℕ, ◌+◌, ◌-◌, ◌*◌, ◌/◌, ◌%◌, ◌<◌, ◌≤◌, Bool, true, false, ◌&&◌, ◌||◌, not, cond, eqb, leb, List, [], ◌∷◌, length, refl, sym, ap, ◌∙◌, subst, inl, inr, arith, codes, eq-eqb}
use Rattle.std.specs.Str.{IsUtf8}
use Rattle.std.specs.Char.{IsScalar}
use Rattle.std.proofs.lemmas.Str.{IsUtf8-append, IsUtf8-encode, IsUtf8-nil}
use Rattle.std.proofs.lemmas.Bool.{cases_Bool, cases_lt, false≢true}
use Rattle.std.proofs.lemmas.Bool.Decides.{nat_tests}
use lib.Utf8.{encode}
use Rattle.spec_syntax.specs.Grammar.{closed, many}
use Rattle.spec_syntax.specs.Reader.{found, read_word}
use Rattle.spec_syntax.proofs.ReadSteps.{Tails, Finds, IsStep}
use Rattle.spec_syntax.specs.Number.{between}
use Rattle.spec_syntax.specs.Text.{continued, is_lead, after_lead, plain, is_hex, hex_value, hex_byte, is_short, short_for, escape, char, joined, texts}
use Rattle.spec_syntax.specs.ValueReader.{read_chars, read_text}
use Rattle.spec_syntax.proofs.Texts.{text_reads}
use Rattle.spec_syntax.proofs.Enclosed.{text_found}
use Rattle.spec_basics.proofs.Booleans.{and_left}
use Rattle.spec_basics.proofs.Numbers.{same_number}

pub one : (c : ℕ) → c < 128 → encode c ≡ c ∷ []
unfolding encode
one c h = grind (arith, nat_tests)

pub two : (q r : ℕ) → 2 ≤ q → q < 32 → r < 64 → encode (q * 64 + r) ≡ (192 + q) ∷ (128 + r) ∷ []
unfolding encode
two q r l h g =
    let d : (q * 64 + r) / 64 ≡ q = omega arith in
    let m : (q * 64 + r) % 64 ≡ r = omega arith in
    grind (arith, nat_tests)

pub three : (p q r : ℕ) → p < 16 → q < 64 → r < 64 → 2048 ≤ (p * 64 + q) * 64 + r → encode ((p * 64 + q) * 64 + r) ≡ (224 + p) ∷ (128 + q) ∷ (128 + r) ∷ []
unfolding encode
three p q r h g k l =
    let a : ((p * 64 + q) * 64 + r) / 4096 ≡ p = omega arith in
    let b : ((p * 64 + q) * 64 + r) / 64 ≡ p * 64 + q = omega arith in
    let c : (p * 64 + q) % 64 ≡ q = omega arith in
    let d : ((p * 64 + q) * 64 + r) % 64 ≡ r = omega arith in
    grind (arith, nat_tests)

pub four : (o p q r : ℕ) → o < 5 → p < 64 → q < 64 → r < 64 → 65536 ≤ ((o * 64 + p) * 64 + q) * 64 + r → encode (((o * 64 + p) * 64 + q) * 64 + r) ≡ (240 + o) ∷ (128 + p) ∷ (128 + q) ∷ (128 + r) ∷ []
unfolding encode
four o p q r n h g k l =
    let a : (((o * 64 + p) * 64 + q) * 64 + r) / 262144 ≡ o = omega arith in
    let b : (((o * 64 + p) * 64 + q) * 64 + r) / 4096 ≡ o * 64 + p = omega arith in
    let c : (((o * 64 + p) * 64 + q) * 64 + r) / 64 ≡ (o * 64 + p) * 64 + q = omega arith in
    let d : (o * 64 + p) % 64 ≡ p = omega arith in
    let e : ((o * 64 + p) * 64 + q) % 64 ≡ q = omega arith in
    let f : (((o * 64 + p) * 64 + q) * 64 + r) % 64 ≡ r = omega arith in
    grind (arith, nat_tests)

low : (c : ℕ) → c < 55296 → IsScalar c
low c h = grind (arith, nat_tests)

high : (c : ℕ) → 57344 ≤ c → c < 1114112 → IsScalar c
high c h g = grind (arith, nat_tests)

-- one byte of each range
abbrev Within : List (ℕ × ℕ) → List ℕ → Type 0
Within [] ys = ys ≡ []
Within (r ∷ ranges) [] = ⊥
Within (r ∷ ranges) (y ∷ ys) = (r.0 ≤ y) × (y ≤ r.1) × Within ranges ys

between_le : (a b x : ℕ) → between a b x ≡ true → (a ≤ x) × (x ≤ b)
between_le a b x h = (grind (arith, nat_tests), grind (arith, nat_tests))

within_more : (r : ℕ × ℕ) (ranges : List (ℕ × ℕ)) (ys : List ℕ) (y : ℕ) (zs : List ℕ) → ys ≡ y ∷ zs → between r.0 r.1 y ≡ true → Within ranges zs → Within (r ∷ ranges) ys
within_more r ranges ys y zs e h w = rw e (let b = between_le r.0 r.1 y h in (b.0, b.1, w))

within : (ranges : List (ℕ × ℕ)) (ys t : List ℕ) → continued ranges ys t → Within ranges ys
within [] ys t s = s.2
within (r ∷ ranges) ys t s = within_more r ranges ys s.0.0 s.0.1 s.2 s.1.2.0 (within ranges s.0.1 s.1.1 s.1.3)

encoded : (c : ℕ) (bs : List ℕ) → encode c ≡ bs → IsScalar c → IsUtf8 bs
encoded c bs e h = subst IsUtf8 e (IsUtf8-encode c h)

-- the numbers above a least one
above : (low x : ℕ) → low ≤ x → (n : ℕ) × (x ≡ low + n)
above low x h = (x - low, omega arith)

pub ascii_utf8 : (b : ℕ) → b < 128 → IsUtf8 (b ∷ [])
ascii_utf8 b h = encoded b (b ∷ []) (one b h) (low b (omega arith))

two_utf8 : (b x : ℕ) → 194 ≤ b → b < 224 → 128 ≤ x → x ≤ 191 → IsUtf8 (b ∷ x ∷ [])
two_utf8 b x h g k l =
    let q = b - 192 in
    let r = x - 128 in
    let e : 192 + q ≡ b = omega arith in
    let f : 128 + r ≡ x = omega arith in
    encoded (q * 64 + r) (b ∷ x ∷ []) (two q r (omega arith) (omega arith) (omega arith) ∙ cc) (low (q * 64 + r) (omega arith))

-- the number that three bytes stand for, and four
abbrev of_three : ℕ → ℕ → ℕ → ℕ
of_three b x y = ((b - 224) * 64 + (x - 128)) * 64 + (y - 128)

abbrev of_four : ℕ → ℕ → ℕ → ℕ → ℕ
of_four b x y z = (((b - 240) * 64 + (x - 128)) * 64 + (y - 128)) * 64 + (z - 128)

three_utf8 : (b x y : ℕ) → 224 ≤ b → b < 240 → 128 ≤ x → x ≤ 191 → 128 ≤ y → y ≤ 191 → 2048 ≤ of_three b x y → IsScalar (of_three b x y) → IsUtf8 (b ∷ x ∷ y ∷ [])
three_utf8 b x y h g k l m n least scalar =
    let e : 224 + (b - 224) ≡ b = omega arith in
    let f : 128 + (x - 128) ≡ x = omega arith in
    let i : 128 + (y - 128) ≡ y = omega arith in
    encoded (of_three b x y) (b ∷ x ∷ y ∷ []) (three (b - 224) (x - 128) (y - 128) (omega arith) (omega arith) (omega arith) least ∙ cc) scalar

-- a byte after the first of a character
record Continues (x : ℕ) : Type 0 where
  least : 128 ≤ x
  most : x ≤ 191

four_utf8 : (b x y z : ℕ) → 240 ≤ b → b < 245 → Continues x → Continues y → Continues z → 65536 ≤ of_four b x y z → of_four b x y z < 1114112 → IsUtf8 (b ∷ x ∷ y ∷ z ∷ [])
four_utf8 b x y z h g k l m least most =
    let x_least : 128 ≤ x = k.least in
    let x_most : x ≤ 191 = k.most in
    let y_least : 128 ≤ y = l.least in
    let y_most : y ≤ 191 = l.most in
    let z_least : 128 ≤ z = m.least in
    let z_most : z ≤ 191 = m.most in
    let e : 240 + (b - 240) ≡ b = omega arith in
    let f : 128 + (x - 128) ≡ x = omega arith in
    let i : 128 + (y - 128) ≡ y = omega arith in
    let j : 128 + (z - 128) ≡ z = omega arith in
    encoded (of_four b x y z) (b ∷ x ∷ y ∷ z ∷ []) (four (b - 240) (x - 128) (y - 128) (z - 128) (omega arith) (omega arith) (omega arith) (omega arith) least ∙ cc) (high (of_four b x y z) (omega arith) most)

-- one, two or three bytes after the first
one_after : (b : ℕ) (ys : List ℕ) → 194 ≤ b → b < 224 → Within ((128, 191) ∷ []) ys → IsUtf8 (b ∷ ys)
one_after b [] h g w = absurd w
one_after b (x ∷ []) h g w = two_utf8 b x h g w.0 w.1
one_after b (x ∷ y ∷ ys) h g w = let e = w.2 in cc

two_after : (b : ℕ) (range : ℕ × ℕ) (ys : List ℕ) → 224 ≤ b → b < 240 → 128 ≤ range.0 → range.1 ≤ 191 → ((x y : ℕ) → range.0 ≤ x → x ≤ range.1 → 128 ≤ y → y ≤ 191 → 2048 ≤ of_three b x y) → ((x y : ℕ) → range.0 ≤ x → x ≤ range.1 → 128 ≤ y → y ≤ 191 → IsScalar (of_three b x y)) → Within (range ∷ (128, 191) ∷ []) ys → IsUtf8 (b ∷ ys)
two_after b range [] h g k l least scalar w = absurd w
two_after b range (x ∷ []) h g k l least scalar w = absurd w.2
two_after b range (x ∷ y ∷ []) h g k l least scalar w = three_utf8 b x y h g (omega (arith, w.0)) (omega (arith, w.1)) w.2.0 w.2.1 (least x y w.0 w.1 w.2.0 w.2.1) (scalar x y w.0 w.1 w.2.0 w.2.1)
two_after b range (x ∷ y ∷ z ∷ ys) h g k l least scalar w = let e = w.2.2 in cc

three_after : (b : ℕ) (range : ℕ × ℕ) (ys : List ℕ) → 240 ≤ b → b < 245 → 128 ≤ range.0 → range.1 ≤ 191 → ((x y z : ℕ) → range.0 ≤ x → x ≤ range.1 → 128 ≤ y → y ≤ 191 → 128 ≤ z → z ≤ 191 → (65536 ≤ of_four b x y z) × (of_four b x y z < 1114112)) → Within (range ∷ (128, 191) ∷ (128, 191) ∷ []) ys → IsUtf8 (b ∷ ys)
three_after b range [] h g k l bounds w = absurd w
three_after b range (x ∷ []) h g k l bounds w = absurd w.2
three_after b range (x ∷ y ∷ []) h g k l bounds w = absurd w.2.2
three_after b range (x ∷ y ∷ z ∷ []) h g k l bounds w =
    let c = bounds x y z w.0 w.1 w.2.0 w.2.1 w.2.2.0 w.2.2.1 in
    four_utf8 b x y z h g (record { least = omega (arith, w.0); most = omega (arith, w.1) }) (record { least = w.2.0; most = w.2.1 }) (record { least = w.2.2.0; most = w.2.2.1 }) c.0 c.1
three_after b range (x ∷ y ∷ z ∷ u ∷ ys) h g k l bounds w = let e = w.2.2.2 in cc

-- a choice between two lists of ranges
pick : (c : Bool) (xs zs : List (ℕ × ℕ)) (ys : List ℕ) (P : Type 0) → (c ≡ true → Within xs ys → P) → (c ≡ false → Within zs ys → P) → Within (cond c xs zs) ys → P
pick true xs zs ys P h g w = h refl w
pick false xs zs ys P h g w = g refl w

abbrev from_244 : ℕ → List (ℕ × ℕ)
from_244 b = cond (eqb b 244) ((128, 143) ∷ (128, 191) ∷ (128, 191) ∷ []) ((128, 191) ∷ (128, 191) ∷ (128, 191) ∷ [])

abbrev from_240 : ℕ → List (ℕ × ℕ)
from_240 b = cond (eqb b 240) ((144, 191) ∷ (128, 191) ∷ (128, 191) ∷ []) (from_244 b)

abbrev from_239 : ℕ → List (ℕ × ℕ)
from_239 b = cond (leb b 239) ((128, 191) ∷ (128, 191) ∷ []) (from_240 b)

abbrev from_237 : ℕ → List (ℕ × ℕ)
from_237 b = cond (eqb b 237) ((128, 159) ∷ (128, 191) ∷ []) (from_239 b)

abbrev from_224 : ℕ → List (ℕ × ℕ)
from_224 b = cond (eqb b 224) ((160, 191) ∷ (128, 191) ∷ []) (from_237 b)

abbrev from_223 : ℕ → List (ℕ × ℕ)
from_223 b = cond (leb b 223) ((128, 191) ∷ []) (from_224 b)

unlike : (b c : ℕ) → eqb b c ≡ false → b ≡ c → ⊥
unlike b c h e = false≢true (sym h ∙ eq-eqb b c e)

up_to : (b c : ℕ) → leb b c ≡ true → b ≤ c
up_to b c h = grind (arith, nat_tests)

beyond : (b c : ℕ) → leb b c ≡ false → c < b
beyond b c h = grind (arith, nat_tests)

after_utf8_239 : (b : ℕ) (ys : List ℕ) → 224 < b → (b ≡ 237 → ⊥) → b ≤ 244 → Within (from_239 b) ys → IsUtf8 (b ∷ ys)
after_utf8_239 b ys l ne m w =
    pick (leb b 239) ((128, 191) ∷ (128, 191) ∷ []) (from_240 b) ys (IsUtf8 (b ∷ ys))
    (λ e v. let le : b ≤ 239 = up_to b 239 e in
    elim (cases_lt b 237) as (λ _. IsUtf8 (b ∷ ys)) [
      | inl k ↦ two_after b (128, 191) ys (omega arith) (omega arith) (omega arith) (omega arith) (λ x y f g h i. omega arith) (λ x y f g h i. low (of_three b x y) (omega arith)) v
      | inr k ↦ let more : 237 < b = omega arith in two_after b (128, 191) ys (omega arith) (omega arith) (omega arith) (omega arith) (λ x y f g h i. omega arith) (λ x y f g h i. high (of_three b x y) (omega arith) (omega arith)) v
    ])
    (λ e v. let gt : 239 < b = beyond b 239 e in
    pick (eqb b 240) ((144, 191) ∷ (128, 191) ∷ (128, 191) ∷ []) (from_244 b) ys (IsUtf8 (b ∷ ys))
    (λ d u. let is : b ≡ 240 = same_number b 240 d in three_after b (144, 191) ys (omega arith) (omega arith) (omega arith) (omega arith) (λ x y z f g h i j k. (omega arith, omega arith)) u)
    (λ d u. let no = unlike b 240 d in
    pick (eqb b 244) ((128, 143) ∷ (128, 191) ∷ (128, 191) ∷ []) ((128, 191) ∷ (128, 191) ∷ (128, 191) ∷ []) ys (IsUtf8 (b ∷ ys))
    (λ c t. let is : b ≡ 244 = same_number b 244 c in three_after b (128, 143) ys (omega arith) (omega arith) (omega arith) (omega arith) (λ x y z f g h i j k. (omega arith, omega arith)) t)
    (λ c t. let not_last = unlike b 244 c in let under : b < 244 = omega arith in let over : 240 < b = omega arith in three_after b (128, 191) ys (omega arith) (omega arith) (omega arith) (omega arith) (λ x y z f g h i j k. (omega arith, omega arith)) t)
    u)
    v)
    w

after_utf8 : (b : ℕ) (ys : List ℕ) → (b ≤ 127) ⊎ ((194 ≤ b) × (b ≤ 244)) → Within (after_lead b) ys → IsUtf8 (b ∷ ys)
after_utf8 b ys r w =
    pick (leb b 127) [] (from_223 b) ys (IsUtf8 (b ∷ ys))
    (λ e v. let le : b ≤ 127 = up_to b 127 e in subst (λ zs. IsUtf8 (b ∷ zs)) (sym v) (ascii_utf8 b (omega arith)))
    (λ e v. let gt : 127 < b = beyond b 127 e in
    let range : (194 ≤ b) × (b ≤ 244) = elim r as (λ _. (194 ≤ b) × (b ≤ 244)) [ inl h ↦ absurd (omega arith) | inr h ↦ h ] in
    pick (leb b 223) ((128, 191) ∷ []) (from_224 b) ys (IsUtf8 (b ∷ ys))
    (λ d u. let le : b ≤ 223 = up_to b 223 d in one_after b ys range.0 (omega arith) u)
    (λ d u. let over : 223 < b = beyond b 223 d in
    pick (eqb b 224) ((160, 191) ∷ (128, 191) ∷ []) (from_237 b) ys (IsUtf8 (b ∷ ys))
    (λ c t. let is : b ≡ 224 = same_number b 224 c in two_after b (160, 191) ys (omega arith) (omega arith) (omega arith) (omega arith) (λ x y f g h i. omega arith) (λ x y f g h i. low (of_three b x y) (omega arith)) t)
    (λ c t. let no = unlike b 224 c in
    pick (eqb b 237) ((128, 159) ∷ (128, 191) ∷ []) (from_239 b) ys (IsUtf8 (b ∷ ys))
    (λ a s. let is : b ≡ 237 = same_number b 237 a in two_after b (128, 159) ys (omega arith) (omega arith) (omega arith) (omega arith) (λ x y f g h i. omega arith) (λ x y f g h i. low (of_three b x y) (omega arith)) s)
    (λ a s. after_utf8_239 b ys (omega (arith, over)) (unlike b 237 a) range.1 s)
    t)
    u)
    v)
    w

lead_range : (b : ℕ) → is_lead b ≡ true → (b ≤ 127) ⊎ ((194 ≤ b) × (b ≤ 244))
lead_range b h = elim (cases_Bool (between 32 127 b)) as (λ _. (b ≤ 127) ⊎ ((194 ≤ b) × (b ≤ 244))) [
  | inl e ↦ inl ((between_le 32 127 b e).1)
  | inr e ↦ inr (between_le 194 244 b (sym (ap (λ x. x && not (eqb b 34) && not (eqb b 92) || between 194 244 b) e) ∙ h))
]

plain_utf8 : (bs t : List ℕ) → plain bs t → IsUtf8 bs
plain_utf8 bs t s = subst IsUtf8 (sym s.2) (after_utf8 s.0.0 s.0.1 (lead_range s.0.0 s.1.0) (within (after_lead s.0.0) s.0.1 s.1.1 s.1.2))

hex_below : (d : ℕ) → is_hex d ≡ true → hex_value d < 16
hex_below d h = grind (arith, nat_tests)

hex_byte_below : (n : ℕ) (t : List ℕ) → hex_byte n t → n < 128
hex_byte_below n t s =
    let second : hex_value s.0.1 < 16 = hex_below s.0.1 (and_left (is_hex s.0.1) (not (eqb s.0.0 48 && (eqb s.0.1 57 || eqb s.0.1 97))) s.1.2.0) in
    let first : hex_value s.0.0 < 2 = first_below s.0.0 s.1.0 in
    omega (arith, s.2)
  where
    first_below : (c : ℕ) → between 48 49 c ≡ true → hex_value c < 2
    first_below c h = grind (arith, nat_tests)

short_below : (b : ℕ) → is_short b ≡ true → short_for b < 128
short_below b h = grind (arith, nat_tests)

escape_below : (n : ℕ) (t : List ℕ) → escape n t → n < 128
escape_below n t s = elim s as (λ _. n < 128) [
  | inl g ↦ omega (arith, g.2, hex_byte_below g.0.1 g.1.1 g.1.3)
  | inr g ↦ omega (arith, g.2, short_below g.0 g.1.0)
]

char_utf8 : (bs t : List ℕ) → char bs t → IsUtf8 bs
char_utf8 bs t s = elim s as (λ _. IsUtf8 bs) [
  | inl g ↦ subst IsUtf8 (sym g.2) (ascii_utf8 g.0 (omega (arith, g.1.2, escape_below g.1.0.1 g.1.1.1 g.1.1.3)))
  | inr g ↦ plain_utf8 bs t g
]

joined_utf8 : (list : List (List ℕ)) (t : List ℕ) → many char list t → IsUtf8 (joined list)
joined_utf8 [] t s = IsUtf8-nil
joined_utf8 (c ∷ list) t s = IsUtf8-append c (joined list) (char_utf8 c s.0 s.2) (joined_utf8 list s.1 s.3)

-- the bytes of a text are UTF-8
pub texts_utf8 : (bs t : List ℕ) → texts bs t → IsUtf8 bs
texts_utf8 bs t s = subst IsUtf8 (sym s.2) (subst (λ list. IsUtf8 (joined list)) (sym s.1.2) (inside_utf8 s.1.0.1 s.1.1.1 s.1.1.3))
  where
    inside_utf8 : (list : List (List ℕ)) (t : List ℕ) → closed (many char) (codes "\"") list t → IsUtf8 (joined list)
    inside_utf8 list t s = subst (λ cs. IsUtf8 (joined cs)) (sym s.2) (joined_utf8 s.0.0 s.1.0 s.1.2)

anything : Tails
anything v = Unit {0}

found_utf8 : (bs chars rest : List ℕ) → Finds texts anything bs chars rest → IsUtf8 chars
found_utf8 bs chars rest f = texts_utf8 chars f.prefix f.spelled

read_utf8 : (bs chars rest : List ℕ) → read_text bs ≡ found chars rest → IsUtf8 chars
unfolding anything
read_utf8 bs chars rest h = found_utf8 bs chars rest (subst (λ st. IsStep texts anything bs st) h (text_reads (length bs) anything ([], tt) bs (omega arith)))

pub text_is_utf8 : (bs r1 r2 r3 chars : List ℕ) → read_word (34 ∷ []) bs ≡ found tt r1 → read_chars r1 ≡ found chars r2 → read_word (34 ∷ []) r2 ≡ found tt r3 → IsUtf8 chars
text_is_utf8 bs r1 r2 r3 chars h g k = read_utf8 bs chars r3 (text_found bs r1 r2 r3 chars h g k)
