-- The readers of numbers read their grammars.
use Rattle.std.proofs.Common.{◌≡◌, ◌⊎◌, ℕ, ◌+◌, ◌-◌, ◌*◌, ◌<◌, ◌≤◌, pos, Bool, true, false, ◌&&◌, cond, eqb, leb, List, [], ◌∷◌, ◌++◌, length, refl, sym, ap, ◌∙◌, subst, inl, inr, arith, codes}
use Rattle.std.proofs.lemmas.Bool.{cases_eq, cases_Bool, false≢true}
use Rattle.std.proofs.lemmas.Bool.Decides.{nat_tests}
use Rattle.spec_syntax.specs.Grammar.{word, mapped, after, led}
use Rattle.spec_syntax.specs.Reader.{Step, found, stopped, first_is, read_word, made_of, after_word, lead}
use Rattle.spec_syntax.proofs.Missed.{missed, missed-same, missed-other, missed_all, missed_all', missed_most}
use Rattle.spec_syntax.proofs.ReadSteps.{Tails, IsStep, Reads, Has, HasTail}
use Rattle.spec_syntax.proofs.Sequences.{rest_le, made_of_reads, word_reads, after_reads}
use Rattle.spec_syntax.proofs.Choices.{NoneStarts, or_else_reads, led_reads}
use Rattle.spec_syntax.proofs.Repetitions.{Begun, Unbegun, begun_word, starts_begun}
use Rattle.spec_syntax.specs.Number.{between, is_digit, longer, positive, natural, negative, number}
use Rattle.spec_syntax.specs.ValueReader.{is, read_longer, read_positive, read_natural, read_number}
use Rattle.spec_syntax.proofs.Firsts.{begun_led, begun_mapped, begun_either, begun_more, none_mapped, none_either, none_word, none_after, none_outside}

-- one digit more
longer_more : (top a : ℕ) (F : Tails) (d : ℕ) (ds : List ℕ) (st : Step ℕ) → Unbegun is_digit F → is_digit d ≡ true → a * 10 + (d - 48) ≤ top → IsStep (longer top (a * 10 + (d - 48))) F ds st → IsStep (longer top a) F (d ∷ ds) st
longer_more top a F d ds (found n rest) un e l f = record {
  prefix = d ∷ f.prefix;
  spelled = (e, l, f.spelled);
  are = ap (λ x. d ∷ x) f.are;
  others = λ b t v s tail. same_or_not b t v s tail;
}
  where
    same_or_not : (b : ℕ) (t v : List ℕ) → longer top a b t → F v → ((b ≡ n) × (t ≡ d ∷ f.prefix)) ⊎ (length rest < missed (t ++ v) (d ∷ ds))
    same_or_not b [] v s tail = inr (omega (arith, rest_le ds f.prefix rest f.are, missed_all' is_digit v (d ∷ ds) (un v tail) e))
    same_or_not b (x ∷ t) v s tail = elim (cases_eq x d) as (λ _. ((b ≡ n) × ((x ∷ t) ≡ d ∷ f.prefix)) ⊎ (length rest < missed ((x ∷ t) ++ v) (d ∷ ds))) [
      | inl q ↦ elim (f.others b t v (subst (λ z. longer top (a * 10 + (z - 48)) b t) q s.2) tail) as (λ _. ((b ≡ n) × ((x ∷ t) ≡ d ∷ f.prefix)) ⊎ (length rest < missed ((x ∷ t) ++ v) (d ∷ ds))) [
        | inl h ↦ let i = h.1 in inl (h.0, cc)
        | inr h ↦ inr (omega (arith, h, missed-same x d (t ++ v) ds q))
      ]
      | inr ne ↦ inr (omega (arith, missed-other x d (t ++ v) ds ne, rest_le ds f.prefix rest f.are))
    ]
longer_more top a F d ds (stopped left) un e l f = record {
  thing = f.thing;
  text = d ∷ f.text;
  tail = f.tail;
  spelled = (e, l, f.spelled);
  follows = f.follows;
  near = missed-same d d (f.text ++ f.tail) ds refl ∙ f.near;
  nearest = λ b t v s tail. no_nearer b t v s tail;
}
  where
    no_nearer : (b : ℕ) (t v : List ℕ) → longer top a b t → F v → left < missed (t ++ v) (d ∷ ds)
    no_nearer b [] v s tail = omega (arith, f.near, missed_most (f.text ++ f.tail) ds, missed_all' is_digit v (d ∷ ds) (un v tail) e)
    no_nearer b (x ∷ t) v s tail = elim (cases_eq x d) as (λ _. left < missed ((x ∷ t) ++ v) (d ∷ ds)) [
      | inl q ↦ omega (arith, f.nearest b t v (subst (λ z. longer top (a * 10 + (z - 48)) b t) q s.2) tail, missed-same x d (t ++ v) ds q)
      | inr ne ↦ omega (arith, f.near, missed_most (f.text ++ f.tail) ds, missed-other x d (t ++ v) ds ne)
    ]

-- the test for one digit more
abbrev fits : ℕ → ℕ → ℕ → Bool
fits top a d = is_digit d && leb (a * 10 + (d - 48)) top

fits_digit : (b : Bool) (m n : ℕ) → (b && leb m n) ≡ true → (b ≡ true) × (m ≤ n)
fits_digit true m n h = (refl, grind (arith, nat_tests))
fits_digit false m n h = absurd (false≢true h)

fits_from : (b : Bool) (m n : ℕ) → b ≡ true → m ≤ n → (b && leb m n) ≡ true
fits_from true m n h l = grind (arith, nat_tests)
fits_from false m n h l = absurd (false≢true h)

-- no digit more
longer_end : (top a : ℕ) (F : Tails) (bs : List ℕ) → first_is (fits top a) bs ≡ false → IsStep (longer top a) F bs (found a bs)
longer_end top a F bs e = record { prefix = []; spelled = refl; are = refl; others = λ b t v s tail. none_or_far b t v s }
  where
    none_or_far : (b : ℕ) (t v : List ℕ) → longer top a b t → ((b ≡ a) × (t ≡ [])) ⊎ (length bs < missed (t ++ v) bs)
    none_or_far b [] v s = inl (s, refl)
    none_or_far b (x ∷ t) v s = inr (missed_all (fits top a) ((x ∷ t) ++ v) bs (fits_from (is_digit x) (a * 10 + (x - 48)) top s.0 s.1) e)

pub longer_step : (top a : ℕ) (F : Tails) → Unbegun is_digit F → (bs : List ℕ) → IsStep (longer top a) F bs (read_longer top a bs)
longer_step top a F un [] = longer_end top a F [] refl
longer_step top a F un (d ∷ ds) = elim (cases_Bool (fits top a d)) as (λ _. IsStep (longer top a) F (d ∷ ds) (read_longer top a (d ∷ ds))) [
  | inl e ↦ let h = fits_digit (is_digit d) (a * 10 + (d - 48)) top e in
      subst (λ x. IsStep (longer top a) F (d ∷ ds) (cond x (read_longer top (a * 10 + (d - 48)) ds) (found a (d ∷ ds)))) (sym e)
      (longer_more top a F d ds (read_longer top (a * 10 + (d - 48)) ds) un h.0 h.1 (longer_step top (a * 10 + (d - 48)) F un ds))
  | inr e ↦ subst (λ x. IsStep (longer top a) F (d ∷ ds) (cond x (read_longer top (a * 10 + (d - 48)) ds) (found a (d ∷ ds)))) (sym e) (longer_end top a F (d ∷ ds) e)
]

pub has_positive : (top : ℕ) → Has (positive top)
has_positive top = (1, 49 ∷ [], ((49, 1), (refl, [], refl, refl), refl))

pub positive_reads : (n top : ℕ) (F : Tails) → HasTail F → Unbegun is_digit F → Reads n (positive top) F (read_positive top)
positive_reads n top F some un =
    made_of_reads n (λ by. by.1) (led (between 49 57) (λ d. longer top (d - 48))) F (lead (between 49 57) (λ d. read_longer top (d - 48)))
    (led_reads n (between 49 57) (λ d. longer top (d - 48)) F (λ d. read_longer top (d - 48)) ((49, 1), 49 ∷ [], (refl, [], refl, refl)) some
    (λ d e bs h. longer_step top (d - 48) F un bs))

begun_positive : (top : ℕ) → Begun (between 49 57) (positive top)
begun_positive top = begun_mapped (between 49 57) (λ by. by.1) (led (between 49 57) (λ d. longer top (d - 48))) (begun_led (between 49 57) (λ d. longer top (d - 48)))

begun_zero : Begun {A = ℕ} (is 48) (mapped (λ _. 0) (word (codes "0")))
begun_zero b t s = ap (first_is (is 48)) s.1

digit_first : (b : ℕ) → between 49 57 b ≡ true → is_digit b ≡ true
digit_first b h = grind (arith, nat_tests)

zero_digit : Begun {A = ℕ} is_digit (mapped (λ _. 0) (word (codes "0")))
zero_digit b t s = ap (first_is is_digit) s.1

pub begun_natural : (top : ℕ) → Begun is_digit (natural top)
begun_natural top = begun_either is_digit (mapped (λ _. 0) (word (codes "0"))) (positive top) zero_digit (begun_more (between 49 57) is_digit (positive top) digit_first (begun_positive top))

abbrev pub has_natural : (top : ℕ) → Has (natural top)
has_natural top = (0, 48 ∷ [], inl (tt, refl, refl))

pub natural_reads : (n top : ℕ) (F : Tails) → HasTail F → Unbegun is_digit F → Reads n (natural top) F (read_natural top)
natural_reads n top F some un =
    or_else_reads n (is 48) (mapped (λ _. 0) (word (codes "0"))) (positive top) F (made_of (λ _. 0) (read_word (codes "0"))) (read_positive top)
    (starts_begun (is 48) (mapped (λ _. 0) (word (codes "0"))) F begun_zero)
    (none_outside (between 49 57) 48 (positive top) F refl (begun_positive top))
    (made_of_reads n (λ _. 0) (word (codes "0")) F (read_word (codes "0")) (word_reads n (codes "0") F some))
    (positive_reads n top F some un)

-- a natural number begins with a digit, and with no other byte
pub none_natural : (top c : ℕ) (F : Tails) → eqb 48 c ≡ false → between 49 57 c ≡ false → NoneStarts (is c) (natural top) F
none_natural top c F zeroless h =
    none_either (is c) (mapped (λ _. 0) (word (codes "0"))) (positive top) F
    (none_mapped (is c) (λ _. 0) (word (codes "0")) F (none_word (is c) 48 [] F zeroless))
    (none_outside (between 49 57) c (positive top) F h (begun_positive top))

pub number_reads : (n : ℕ) (F : Tails) → HasTail F → Unbegun is_digit F → Reads n number F read_number
number_reads n F some un =
    or_else_reads n (is 45) (mapped negative (after (codes "-") (positive 9223372036854775808))) (mapped pos (natural 9223372036854775807)) F
    (made_of negative (after_word (codes "-") (read_positive 9223372036854775808))) (made_of pos (read_natural 9223372036854775807))
    (starts_begun (is 45) (mapped negative (after (codes "-") (positive 9223372036854775808))) F
    (begun_mapped (is 45) negative (after (codes "-") (positive 9223372036854775808)) (begun_word (is 45) 45 [] (positive 9223372036854775808) refl)))
    (none_mapped (is 45) pos (natural 9223372036854775807) F (none_natural 9223372036854775807 45 F refl refl))
    (made_of_reads n negative (after (codes "-") (positive 9223372036854775808)) F (after_word (codes "-") (read_positive 9223372036854775808))
    (after_reads n n (codes "-") (positive 9223372036854775808) F (read_positive 9223372036854775808) (omega arith) (has_positive 9223372036854775808) some (positive_reads n 9223372036854775808 F some un)))
    (made_of_reads n pos (natural 9223372036854775807) F (read_natural 9223372036854775807) (natural_reads n 9223372036854775807 F some un))

-- a number begins with a digit or a minus, and with no other byte
pub none_number : (c : ℕ) (F : Tails) → eqb 45 c ≡ false → eqb 48 c ≡ false → between 49 57 c ≡ false → NoneStarts (is c) number F
none_number c F minusless zeroless h =
    none_either (is c) (mapped negative (after (codes "-") (positive 9223372036854775808))) (mapped pos (natural 9223372036854775807)) F
    (none_mapped (is c) negative (after (codes "-") (positive 9223372036854775808)) F (none_after (is c) 45 [] (positive 9223372036854775808) F minusless))
    (none_mapped (is c) pos (natural 9223372036854775807) F (none_natural 9223372036854775807 c F zeroless h))
