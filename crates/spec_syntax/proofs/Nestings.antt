-- A matcher that is spelled is within the limits: its one spelling nests no deeper than any other.
use Rattle.std.proofs.Common.{◌≡◌, ℕ, zero, suc, ◌≤◌, List, [], ◌∷◌, sym, ap, ◌∙◌, subst, inl, inr, arith, codes}
use Rattle.std.specs.List.{AllByRecursion}
use Rattle.spec_value.specs.Tree.{Tree, nesting}
use Rattle.spec_syntax.specs.Grammar.{Grammar, after, closed, many, words}
use Rattle.spec_lang.specs.declared.Test.{Test}
use Rattle.spec_lang.specs.Matcher as meant
use Rattle.spec_syntax.specs.Matcher.{all_of, any_of, Joint, conjunction, disjunction, up_to_or, after_or, joint_words, joined_unit, chain, test_words, tested, comparison, formed, negated, flat_words, unit_words, unit, matcher}
use Rattle.spec_syntax.specs.Proper.{IsProper, IsMatcher, AreMatchers, deeper_if, matcher_nesting, units_nesting, choices_nesting}
use Rattle.spec_syntax.specs.Spelled.{is_joined, is_choice}
use Rattle.spec_syntax.proofs.Limits.{path_within, value_within}

-- a matcher nested at most so deep where it stands alone, as a unit, and as a part of an `or`
abbrev IsAlone : ℕ → meant.Matcher → Type 0
IsAlone depth m = IsMatcher m × (matcher_nesting m ≤ depth)

abbrev IsUnit : ℕ → meant.Matcher → Type 0
IsUnit depth m = IsMatcher m × (deeper_if (is_joined m) (matcher_nesting m) ≤ depth)

abbrev IsChoice : ℕ → meant.Matcher → Type 0
IsChoice depth m = IsMatcher m × (deeper_if (is_choice m) (matcher_nesting m) ≤ depth)

as_choice : (depth : ℕ) (m : meant.Matcher) → IsUnit depth m → IsChoice depth m
as_choice depth meant.all h = h
as_choice depth meant.nothing h = h
as_choice depth (meant.is p test v) h = h
as_choice depth (meant.negation m) h = h
as_choice depth (meant.both ms) h = (h.0, omega (arith, h.1))
as_choice depth (meant.either ms) h = h

as_alone : (depth : ℕ) (m : meant.Matcher) → IsChoice depth m → IsAlone depth m
as_alone depth meant.all h = h
as_alone depth meant.nothing h = h
as_alone depth (meant.is p test v) h = h
as_alone depth (meant.negation m) h = h
as_alone depth (meant.both ms) h = h
as_alone depth (meant.either ms) h = (h.0, omega (arith, h.1))

-- between parentheses, which may be more than it needs
as_unit : (depth : ℕ) (m : meant.Matcher) → IsAlone depth m → IsUnit (suc depth) m
as_unit depth meant.all h = (h.0, omega (arith, h.1))
as_unit depth meant.nothing h = (h.0, omega (arith, h.1))
as_unit depth (meant.is p test v) h = (h.0, omega (arith, h.1))
as_unit depth (meant.negation m) h = (h.0, omega (arith, h.1))
as_unit depth (meant.both ms) h = (h.0, omega (arith, h.1))
as_unit depth (meant.either ms) h = (h.0, omega (arith, h.1))

units_within : (depth : ℕ) (ms : List meant.Matcher) → AllByRecursion (IsUnit depth) ms → AreMatchers (meant.matchers ms) × (units_nesting (meant.matchers ms) ≤ depth)
units_within depth [] h = (tt, omega arith)
units_within depth (m ∷ ms) h = let others = units_within depth ms h.1 in ((h.0.0, others.0), omega (arith, h.0.1, others.1))

choices_within : (depth : ℕ) (ms : List meant.Matcher) → AllByRecursion (IsChoice depth) ms → AreMatchers (meant.matchers ms) × (choices_nesting (meant.matchers ms) ≤ depth)
choices_within depth [] h = (tt, omega arith)
choices_within depth (m ∷ ms) h = let others = choices_within depth ms h.1 in ((h.0.0, others.0), omega (arith, h.0.1, others.1))

all_of_within : (depth : ℕ) (m : meant.Matcher) (ms : List meant.Matcher) → IsUnit depth m → AllByRecursion (IsUnit depth) ms → IsChoice depth (all_of m ms)
all_of_within depth m [] h g = as_choice depth m h
all_of_within depth m (n ∷ ms) h g = let parts = units_within depth (m ∷ n ∷ ms) (h, g) in ((omega arith, parts.0), parts.1)

any_of_within : (depth : ℕ) (m : meant.Matcher) (ms : List meant.Matcher) → IsChoice depth m → AllByRecursion (IsChoice depth) ms → IsAlone depth (any_of m ms)
any_of_within depth m [] h g = as_alone depth m h
any_of_within depth m (n ∷ ms) h g = let parts = choices_within depth (m ∷ n ∷ ms) (h, g) in ((omega arith, parts.0), parts.1)

abbrev AreJoined : ℕ → List (Joint × meant.Matcher) → Type 0
AreJoined depth list = AllByRecursion (λ joined. IsUnit depth joined.1) list

up_within : (depth : ℕ) (list : List (Joint × meant.Matcher)) → AreJoined depth list → AllByRecursion (IsUnit depth) (up_to_or list)
up_within depth [] h = tt
up_within depth ((conjunction, m) ∷ list) h = (h.0, up_within depth list h.1)
up_within depth ((disjunction, m) ∷ list) h = tt

later_within : (depth : ℕ) (list : List (Joint × meant.Matcher)) → AreJoined depth list → AllByRecursion (IsChoice depth) (after_or list)
later_within depth [] h = tt
later_within depth ((conjunction, m) ∷ list) h = later_within depth list h.1
later_within depth ((disjunction, m) ∷ list) h = (all_of_within depth m (up_to_or list) h.0 (up_within depth list h.1), later_within depth list h.1)

-- what the grammar of units spells is within the limits
abbrev AllUnits : ℕ → Grammar meant.Matcher → Type 0
AllUnits depth U = (m : meant.Matcher) (t : List ℕ) → U m t → IsUnit depth m

joint_within : (depth : ℕ) (U : Grammar meant.Matcher) → AllUnits depth U → (joint : Joint) (w : List ℕ) (x : Joint × meant.Matcher) (t : List ℕ) → after w (joined_unit U joint) x t → IsUnit depth x.1
joint_within depth U h joint w x t s =
    let inside = s.1.3 in
    let same : inside.0 ≡ x.1 = sym (ap (λ y. y.1) inside.2) ∙ sym (ap (λ y. y.1) s.2) in
    subst (IsUnit depth) same (h inside.0 s.1.1 inside.1)

joints_within : (depth : ℕ) (U : Grammar meant.Matcher) → AllUnits depth U → (list : List (Joint × meant.Matcher)) (t : List ℕ) → many (words (joined_unit U) joint_words) list t → AreJoined depth list
joints_within depth U h [] t s = tt
joints_within depth U h (x ∷ list) t s = (one s.0 s.2, joints_within depth U h list s.1 s.3)
  where
    one : (u : List ℕ) → words (joined_unit U) joint_words x u → IsUnit depth x.1
    one u s = elim s as (λ _. IsUnit depth x.1) [
      | inl g ↦ joint_within depth U h conjunction (codes " and ") x u g
      | inr g ↦ elim g as (λ _. IsUnit depth x.1) [
        | inl i ↦ joint_within depth U h disjunction (codes " or ") x u i
        | inr i ↦ absurd i
      ]
    ]

chain_within : (depth : ℕ) (U : Grammar meant.Matcher) → AllUnits depth U → (m : meant.Matcher) (t : List ℕ) → chain U m t → IsAlone depth m
chain_within depth U h m t s =
    let others : AreJoined depth s.0.1 = joints_within depth U h s.0.1 s.1.1 s.1.3 in
    let first : IsChoice depth (all_of s.0.0 (up_to_or s.0.1)) = all_of_within depth s.0.0 (up_to_or s.0.1) (h s.0.0 s.1.0 s.1.2) (up_within depth s.0.1 others) in
    subst (IsAlone depth) (sym s.2) (any_of_within depth (all_of s.0.0 (up_to_or s.0.1)) (after_or s.0.1) first (later_within depth s.0.1 others))

abbrev IsLiteral : Test × Tree → Type 0
IsLiteral tv = IsProper tv.1 × (nesting tv.1 ≤ 64)

literal_within : (w : List ℕ) (test : Test) (tv : Test × Tree) (t : List ℕ) → after w (tested test) tv t → IsLiteral tv
literal_within w test tv t s =
    let inside = s.1.3 in
    let same : (test, inside.0) ≡ tv = sym inside.2 ∙ sym s.2 in
    subst IsLiteral same (value_within 64 inside.0 s.1.1 inside.1)

tests_within : (rows : List (List ℕ × Test)) (tv : Test × Tree) (t : List ℕ) → words tested rows tv t → IsLiteral tv
tests_within [] tv t s = absurd s
tests_within (row ∷ rows) tv t s = elim s as (λ _. IsLiteral tv) [
  | inl g ↦ literal_within row.0 row.1 tv t g
  | inr g ↦ tests_within rows tv t g
]

comparison_within : (depth : ℕ) → AllUnits depth comparison
comparison_within depth m t s =
    let literal : IsLiteral s.0.1 = tests_within test_words s.0.1 s.1.1 s.1.3 in
    subst (IsUnit depth) (sym s.2) ((path_within s.0.0 s.1.0 s.1.2, literal.0, literal.1), omega arith)

-- what a word of the table begins, with these units inside it
flat_within : (depth : ℕ) (U : Grammar meant.Matcher) → AllUnits depth (words (formed U) flat_words)
flat_within depth U m t s = elim s as (λ _. IsUnit depth m) [
  | inl g ↦ subst (IsUnit depth) (sym g.1.3.2 ∙ sym g.2) (tt, omega arith)
  | inr g ↦ elim g as (λ _. IsUnit depth m) [
    | inl h ↦ subst (IsUnit depth) (sym h.1.3.2 ∙ sym h.2) (tt, omega arith)
    | inr h ↦ absurd h
  ]
]

worded_within : (depth : ℕ) (U : Grammar meant.Matcher) → AllUnits depth U → AllUnits (suc depth) (words (formed U) unit_words)
worded_within depth U h m t s = elim s as (λ _. IsUnit (suc depth) m) [
  | inl g ↦ subst (IsUnit (suc depth)) (sym g.2) (negated_within g.0.1 g.1.1 g.1.3)
  | inr s ↦ elim s as (λ _. IsUnit (suc depth) m) [
    | inl g ↦ subst (IsUnit (suc depth)) (sym g.2) (enclosed_within g.0.1 g.1.1 g.1.3)
    | inr g ↦ flat_within (suc depth) U m t g
  ]
]
  where
    negated_within : (n : meant.Matcher) (u : List ℕ) → formed U negated n u → IsUnit (suc depth) n
    negated_within n u s = let inside = h s.0 u s.1 in subst (IsUnit (suc depth)) (sym s.2) (inside.0, omega (arith, inside.1))

    enclosed_within : (n : meant.Matcher) (u : List ℕ) → closed (chain U) (codes ")") n u → IsUnit (suc depth) n
    enclosed_within n u s = as_unit depth n (subst (IsAlone depth) (sym s.2) (chain_within depth U h s.0.0 s.1.0 s.1.2))

unit_within : (depth : ℕ) → AllUnits depth (unit depth)
unfolding unit
unit_within zero m t s = elim s as (λ _. IsUnit zero m) [
  | inl g ↦ comparison_within zero m t g
  | inr g ↦ flat_within zero comparison m t g
]
unit_within (suc depth) m t s = elim s as (λ _. IsUnit (suc depth) m) [
  | inl g ↦ comparison_within (suc depth) m t g
  | inr g ↦ worded_within depth (unit depth) (unit_within depth) m t g
]

pub matcher_within : (m : meant.Matcher) (t : List ℕ) → matcher m t → IsMatcher m × (matcher_nesting m ≤ 8)
matcher_within m t s = chain_within 8 (unit 8) (unit_within 8) m t s
