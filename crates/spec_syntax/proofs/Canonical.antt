-- Each value has one spelling: what the grammar spells is exactly that.
use Rattle.std.proofs.Common.{◌≡◌, ℕ, zero, suc, ◌+◌, ◌*◌, ◌/◌, ◌%◌, ◌<◌, ◌≤◌, Bool, true, false, ◌&&◌, ◌||◌, not, cond, eqb, leb, List, [], ◌∷◌, ◌++◌, refl, sym, ap, ◌∙◌, inl, inr, arith, append-nil, codes}
use Rattle.std.specs.Prelude.{flat_map}
use Rattle.std.specs.List.{AllByRecursion}
use Rattle.std.proofs.lemmas.Bool.{false≢true}
use Rattle.std.proofs.lemmas.Bool.Decides.{nat_tests}
use Rattle.std.proofs.lemmas.Grind.{flat_map-append}
use Rattle.spec_value.specs.Tree.{Tree, text, items_of, trees}
use Rattle.spec_syntax.specs.Grammar.{Grammar, optional, after, many, listed}
use Rattle.spec_syntax.specs.ValueText.{hex_digit, spelled_byte, spelled_value, spelled_elements, spelled_others}
use Rattle.spec_syntax.specs.Number.{between}
use Rattle.spec_syntax.specs.Text.{continued, is_lead, after_lead, plain, is_hex, hex_value, second_hex, hex_byte, is_short, short_for, escape, char, joined, texts}
use Rattle.spec_syntax.specs.Value.{list_of, leaf, value, any_value}
use Rattle.spec_syntax.proofs.Spellings.{number_is}
use Rattle.spec_basics.proofs.Booleans.{and_left}

-- the spelling of bytes
abbrev pub spelled : List ℕ → List ℕ
spelled bytes = flat_map spelled_byte bytes

pub high_byte : (b : ℕ) → 128 ≤ b → spelled_byte b ≡ b ∷ []
high_byte b h = grind (arith, nat_tests)

lead_byte : (b : ℕ) → is_lead b ≡ true → spelled_byte b ≡ b ∷ []
lead_byte b h = grind (arith, nat_tests)

-- bytes from 128 on
abbrev AreHigh : List (ℕ × ℕ) → Type 0
AreHigh ranges = AllByRecursion (λ r. 128 ≤ r.0) ranges

between_least : (low high b : ℕ) → between low high b ≡ true → low ≤ b
between_least low high b h = grind (arith, nat_tests)

-- a text in two parts, each spelled
two_parts : (b : ℕ) (ys bs t u v : List ℕ) → bs ≡ b ∷ ys → spelled_byte b ≡ u → v ≡ spelled ys → t ≡ u ++ v → t ≡ spelled bs
two_parts b ys bs t u v is first others parts = parts ∙ ap (λ x. x ++ v) (sym first) ∙ ap (λ x. spelled_byte b ++ x) others ∙ sym (ap spelled is)

continued_is : (ranges : List (ℕ × ℕ)) → AreHigh ranges → (ys t : List ℕ) → continued ranges ys t → t ≡ spelled ys
continued_is [] h ys t s = s.1 ∙ sym (ap spelled s.2)
continued_is (r ∷ ranges) h ys t s =
    two_parts s.0.0 s.0.1 ys t s.1.0 s.1.1 s.2 (high_byte s.0.0 (omega (arith, h.0, between_least r.0 r.1 s.0.0 s.1.2.0)) ∙ sym s.1.2.1) (continued_is ranges h.1 s.0.1 s.1.1 s.1.3) s.1.4

high_either : (b : Bool) (xs ys : List (ℕ × ℕ)) → AreHigh xs → AreHigh ys → AreHigh (cond b xs ys)
high_either true xs ys h g = h
high_either false xs ys h g = g

high_after : (b : ℕ) → AreHigh (after_lead b)
high_after b =
    high_either (leb b 127) _ _ tt
    (high_either (leb b 223) _ _ (omega arith, tt)
    (high_either (eqb b 224) _ _ (omega arith, (omega arith, tt))
    (high_either (eqb b 237) _ _ (omega arith, (omega arith, tt))
    (high_either (leb b 239) _ _ (omega arith, (omega arith, tt))
    (high_either (eqb b 240) _ _ (omega arith, (omega arith, (omega arith, tt)))
    (high_either (eqb b 244) _ _ (omega arith, (omega arith, (omega arith, tt))) (omega arith, (omega arith, (omega arith, tt)))))))))

pub plain_is : (bs t : List ℕ) → plain bs t → t ≡ spelled bs
plain_is bs t s =
    two_parts s.0.0 s.0.1 bs t (s.0.0 ∷ []) s.1.1 s.2 (lead_byte s.0.0 s.1.0) (continued_is (after_lead s.0.0) (high_after s.0.0) s.0.1 s.1.1 s.1.2) s.1.3

-- a hexadecimal digit is that of its value
hex_digit_is : (d : ℕ) → is_hex d ≡ true → (hex_value d < 16) × (hex_digit (hex_value d) ≡ d)
hex_digit_is d h = (grind (arith, nat_tests), grind (arith, nat_tests))

first_hex : (c : ℕ) → between 48 49 c ≡ true → (hex_value c < 2) × (hex_digit (hex_value c) ≡ c)
first_hex c h = (grind (arith, nat_tests), grind (arith, nat_tests))

-- no line feed and no tab
not_short : (c d : ℕ) → between 48 49 c ≡ true → second_hex c d ≡ true → (hex_value c * 16 + hex_value d ≡ 10 → ⊥) × (hex_value c * 16 + hex_value d ≡ 9 → ⊥)
not_short c d h g = (λ e. grind (arith, nat_tests), λ e. grind (arith, nat_tests))

pub control_byte : (n : ℕ) → n < 32 → (n ≡ 10 → ⊥) → (n ≡ 9 → ⊥) → spelled_byte n ≡ codes "\\x" ++ hex_digit (n / 16) ∷ hex_digit (n % 16) ∷ []
control_byte n l f g = grind (arith, nat_tests)

hex_byte_is : (n : ℕ) (t : List ℕ) → hex_byte n t → spelled_byte n ≡ 92 ∷ 120 ∷ t
hex_byte_is n t s =
    let c = s.0.0 in
    let d = s.0.1 in
    let first = first_hex c s.1.0 in
    let second = hex_digit_is d (and_left (is_hex d) (not (eqb c 48 && (eqb d 57 || eqb d 97))) s.1.2.0) in
    let short = not_short c d s.1.0 s.1.2.0 in
    let value : n ≡ hex_value c * 16 + hex_value d = s.2 in
    let high : n / 16 ≡ hex_value c = omega arith in
    let low : n % 16 ≡ hex_value d = omega arith in
    control_byte n (omega arith) (λ e. short.0 (sym value ∙ e)) (λ e. short.1 (sym value ∙ e))
    ∙ ap (λ x. 92 ∷ 120 ∷ hex_digit x ∷ hex_digit (n % 16) ∷ []) high
    ∙ ap (λ x. 92 ∷ 120 ∷ x ∷ hex_digit (n % 16) ∷ []) first.1
    ∙ ap (λ x. 92 ∷ 120 ∷ c ∷ hex_digit x ∷ []) low
    ∙ ap (λ x. 92 ∷ 120 ∷ c ∷ x ∷ []) second.1
    ∙ sym (ap (λ x. 92 ∷ 120 ∷ x) (s.1.3 ∙ ap (λ x. c ∷ x) s.1.2.1))

short_is : (b : ℕ) → is_short b ≡ true → spelled_byte (short_for b) ≡ 92 ∷ b ∷ []
short_is b h = grind (arith, nat_tests)

escape_is : (n : ℕ) (t : List ℕ) → escape n t → spelled_byte n ≡ 92 ∷ t
escape_is n t s = elim s as (λ _. spelled_byte n ≡ 92 ∷ t) [
  | inl g ↦ ap spelled_byte g.2 ∙ hex_byte_is g.0.1 g.1.1 g.1.3 ∙ sym (ap (λ x. 92 ∷ x) (g.1.4 ∙ ap (λ x. x ++ g.1.1) g.1.2))
  | inr g ↦ ap spelled_byte g.2 ∙ short_is g.0 g.1.0 ∙ sym (ap (λ x. 92 ∷ x) g.1.1)
]

char_is : (bs t : List ℕ) → char bs t → t ≡ spelled bs
char_is bs t s = elim s as (λ _. t ≡ spelled bs) [
  | inl g ↦
      let parts : t ≡ 92 ∷ g.1.1.1 = g.1.1.4 ∙ ap (λ x. x ++ g.1.1.1) g.1.1.2 in
      two_parts g.0 [] bs t (92 ∷ g.1.1.1) [] g.2 (ap spelled_byte g.1.2 ∙ escape_is g.1.0.1 g.1.1.1 g.1.1.3) refl (parts ∙ sym (append-nil (92 ∷ g.1.1.1)))
  | inr g ↦ plain_is bs t g
]

chars_are : (list : List (List ℕ)) (t : List ℕ) → many char list t → t ≡ spelled (joined list)
chars_are [] t s = s
chars_are (c ∷ list) t s =
    s.4 ∙ ap (λ x. x ++ s.1) (char_is c s.0 s.2) ∙ ap (λ x. spelled c ++ x) (chars_are list s.1 s.3) ∙ sym (flat_map-append spelled_byte c (joined list))

-- what spells a text is its spelling
pub text_is : (bs t : List ℕ) → texts bs t → t ≡ spelled_value (text bs)
text_is bs t s =
    let inside = s.1.1.3 in
    let list = inside.0.0 in
    let quoted : s.1.1.1 ≡ spelled (joined list) ++ 34 ∷ [] =
    inside.1.4 ∙ ap (λ x. x ++ inside.1.1) (chars_are list inside.1.0 inside.1.2) ∙ ap (λ x. spelled (joined list) ++ x) inside.1.3 in
    let same : joined list ≡ bs = ap joined (sym inside.2) ∙ ap joined (sym s.1.2) ∙ sym s.2 in
    s.1.1.4 ∙ ap (λ x. x ++ s.1.1.1) s.1.1.2 ∙ ap (λ x. 34 ∷ x) quoted ∙ ap (λ x. 34 ∷ (spelled x ++ 34 ∷ [])) same

leaf_is : (a : Tree) (t : List ℕ) → leaf a t → t ≡ spelled_value a
leaf_is a t s = elim s as (λ _. t ≡ spelled_value a) [
  | inl g ↦ text_is g.0 t g.1 ∙ ap spelled_value (sym g.2)
  | inr g ↦ number_is g.0 t g.1 ∙ ap spelled_value (sym g.2)
]

-- what spells each element is its spelling
abbrev Canonical : Grammar Tree → Type 0
Canonical V = (a : Tree) (t : List ℕ) → V a t → t ≡ spelled_value a

others_are : (V : Grammar Tree) → Canonical V → (list : List Tree) (t : List ℕ) → many (after (codes ",") V) list t → t ≡ spelled_others (trees list)
others_are V h [] t s = s
others_are V h (a ∷ list) t s =
    let after_word : s.0 ≡ 44 ∷ spelled_value a = s.2.1.4 ∙ ap (λ x. x ++ s.2.1.1) s.2.1.2 ∙ ap (λ x. 44 ∷ x) (h s.2.0.1 s.2.1.1 s.2.1.3 ∙ ap spelled_value (sym s.2.2)) in
    s.4 ∙ ap (λ x. x ++ s.1) after_word ∙ ap (λ x. 44 ∷ (spelled_value a ++ x)) (others_are V h list s.1 s.3)

elements_are : (V : Grammar Tree) → Canonical V → (list : List Tree) (t : List ℕ) → optional [] (listed V (codes ",")) list t → t ≡ spelled_elements (trees list)
elements_are V h list t s = elim s as (λ _. t ≡ spelled_elements (trees list)) [
  | inl g ↦
      g.1.4 ∙ ap (λ x. x ++ g.1.1) (h g.0.0 g.1.0 g.1.2) ∙ ap (λ x. spelled_value g.0.0 ++ x) (others_are V h g.0.1 g.1.1 g.1.3)
      ∙ ap (λ x. spelled_elements (trees x)) (sym g.2)
  | inr g ↦ g.1 ∙ ap (λ x. spelled_elements (trees x)) (sym g.2)
]

list_is : (V : Grammar Tree) → Canonical V → (a : Tree) (t : List ℕ) → list_of V a t → t ≡ spelled_value a
list_is V h a t s =
    let inside = s.1.1.3 in
    let closing : s.1.1.1 ≡ spelled_elements (trees inside.0.0) ++ 93 ∷ [] =
    inside.1.4 ∙ ap (λ x. x ++ inside.1.1) (elements_are V h inside.0.0 inside.1.0 inside.1.2) ∙ ap (λ x. spelled_elements (trees inside.0.0) ++ x) inside.1.3 in
    let same : inside.0.0 ≡ s.0 = sym inside.2 ∙ sym s.1.2 in
    s.1.1.4 ∙ ap (λ x. x ++ s.1.1.1) s.1.1.2 ∙ ap (λ x. 91 ∷ x) closing ∙ ap (λ x. spelled_value (items_of x)) same ∙ ap spelled_value (sym s.2)

value_is : (depth : ℕ) → Canonical (value depth)
unfolding value
value_is zero a t s = leaf_is a t s
value_is (suc depth) a t s = elim s as (λ _. t ≡ spelled_value a) [
  | inl g ↦ list_is (value depth) (value_is depth) a t g
  | inr g ↦ leaf_is a t g
]

-- what spells a value is its spelling
pub any_is : (a : Tree) (t : List ℕ) → any_value a t → t ≡ spelled_value a
any_is a t s = value_is s.0 a t s.1
