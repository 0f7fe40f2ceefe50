-- The grammar of values and their spelling agree: what spells a value is its spelling.
use Rattle.std.proofs.Common.{◌≡◌, ℕ, suc, ℤ, ◌+◌, ◌-◌, ◌*◌, ◌^◌, ◌<◌, ◌≤◌, true, List, [], ◌∷◌, ◌++◌, refl, sym, ap, ◌∙◌, subst, inl, inr, arith}
use Rattle.std.specs.Prelude.{decimal}
use Rattle.std.specs.Fmt.{signed_decimal}
use Rattle.std.specs.Char.{digit_value}
use Rattle.std.specs.Str.Parse.{AllDigits, digits_value, digits_value_after}
use Rattle.std.proofs.lemmas.Str.Parse.{IsNumeralModel}
use Rattle.std.proofs.lemmas.Fmt.{decimal-digits_value, decimal_digit}
use Rattle.std.proofs.lemmas.Bool.Decides.{nat_tests}
use Rattle.spec_syntax.specs.Number.{between, is_digit, longer, positive, natural, number}

own : IsNumeralModel (AllDigits 10) (digits_value 10)
own = record { to = λ ds h. h; from = λ ds h. h; same = λ ds h. refl }

digit_is : (d : ℕ) → 48 ≤ d → d ≤ 57 → digit_value d ≡ d - 48
digit_is d h g = grind (arith, nat_tests)

digit_range : (d : ℕ) → is_digit d ≡ true → (48 ≤ d) × (d ≤ 57)
digit_range d h = (grind (arith, nat_tests), grind (arith, nat_tests))

first_range : (d : ℕ) → between 49 57 d ≡ true → (49 ≤ d) × (d ≤ 57)
first_range d h = (grind (arith, nat_tests), grind (arith, nat_tests))

-- the digits after a number are digits, and with them it is what they come to
longer_digits : (top a n : ℕ) (ds : List ℕ) → longer top a n ds → AllDigits 10 ds × (digits_value_after 10 a ds ≡ n)
longer_digits top a n [] s = (tt, sym s)
longer_digits top a n (d ∷ ds) s =
    let r = digit_range d s.0 in
    let v : digit_value d ≡ d - 48 = digit_is d r.0 r.1 in
    let more = longer_digits top (a * 10 + (d - 48)) n ds s.2 in
    ((omega arith, more.0), ap (λ x. digits_value_after 10 (a * 10 + x) ds) v ∙ more.1)

longer_most : (top a n : ℕ) (ds : List ℕ) → a ≤ top → longer top a n ds → n ≤ top
longer_most top a n [] l s = omega (arith, s)
longer_most top a n (d ∷ ds) l s = longer_most top (a * 10 + (d - 48)) n ds s.1 s.2

number_first : (d : ℕ) (ds : List ℕ) (top n : ℕ) → 9 ≤ top → top < 2 ^ 64 → between 49 57 d ≡ true → longer top (d - 48) n ds → decimal n ≡ d ∷ ds
number_first d ds top n l m h s =
    let r = first_range d h in
    let v : digit_value d ≡ d - 48 = digit_is d (omega arith) r.1 in
    let more = longer_digits top (d - 48) n ds s in
    let all : AllDigits 10 (d ∷ ds) = (omega arith, more.0) in
    let value : digits_value 10 (d ∷ ds) ≡ n = ap (λ x. digits_value_after 10 x ds) (let e : 0 * 10 + digit_value d ≡ d - 48 = omega arith in e) ∙ more.1 in
    let most : n ≤ top = longer_most top (d - 48) n ds (omega arith) s in
    ap decimal (sym value) ∙ decimal-digits_value own (d ∷ ds) all (omega arith) (λ e. absurd (omega (arith, e))) (omega (arith, value))

-- a number is spelled in decimal
pub positive_is : (top n : ℕ) (t : List ℕ) → 9 ≤ top → top < 2 ^ 64 → positive top n t → t ≡ decimal n
positive_is top n t l m s = s.1.3 ∙ sym (number_first s.0.0 s.1.1 top s.0.1 l m s.1.0 s.1.2) ∙ ap decimal (sym s.2)

pub positive_most : (top n : ℕ) (t : List ℕ) → 9 ≤ top → positive top n t → n ≤ top
positive_most top n t l s = let r = first_range s.0.0 s.1.0 in omega (arith, s.2, longer_most top (s.0.0 - 48) s.0.1 s.1.1 (omega (arith, r.1)) s.1.2)

pub natural_most : (top n : ℕ) (t : List ℕ) → 9 ≤ top → natural top n t → n ≤ top
natural_most top n t l s = elim s as (λ _. n ≤ top) [
  | inl g ↦ omega (arith, g.2)
  | inr g ↦ positive_most top n t l g
]

pub natural_is : (top n : ℕ) (t : List ℕ) → 9 ≤ top → top < 2 ^ 64 → natural top n t → t ≡ decimal n
natural_is top n t l m s = elim s as (λ _. t ≡ decimal n) [
  | inl g ↦ g.1 ∙ sym (decimal_digit 0 (omega arith)) ∙ ap decimal (sym g.2)
  | inr g ↦ positive_is top n t l m g
]

pub positive_least : (top n : ℕ) (t : List ℕ) → positive top n t → 0 < n
positive_least top n t s = let r = first_range s.0.0 s.1.0 in omega (arith, s.2, longer_least top (s.0.0 - 48) s.0.1 s.1.1 s.1.2)
  where
    longer_least : (top a n : ℕ) (ds : List ℕ) → longer top a n ds → a ≤ n
    longer_least top a n [] s = omega (arith, s)
    longer_least top a n (d ∷ ds) s = omega (arith, longer_least top (a * 10 + (d - 48)) n ds s.2)

pub number_is : (n : ℤ) (t : List ℕ) → number n t → t ≡ signed_decimal n
number_is n t s = elim s as (λ _. t ≡ signed_decimal n) [
  | inl g ↦
      let least : 0 < g.0 = subst (λ x. 0 < x) (sym g.1.2) (positive_least 9223372036854775808 g.1.0.1 g.1.1.1 g.1.1.3) in
      let back : suc (g.0 - 1) ≡ g.0 = omega arith in
      g.1.1.4 ∙ ap (λ x. x ++ g.1.1.1) g.1.1.2
      ∙ ap (λ x. 45 ∷ x) (positive_is 9223372036854775808 g.1.0.1 g.1.1.1 (omega arith) (omega arith) g.1.1.3 ∙ ap decimal (sym g.1.2 ∙ sym back))
      ∙ ap signed_decimal (sym g.2)
  | inr g ↦ natural_is 9223372036854775807 g.0 t (omega arith) (omega arith) g.1 ∙ ap signed_decimal (sym g.2)
]
