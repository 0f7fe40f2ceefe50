-- The grammar of matchers.
use Rattle.std.specs.Prelude.{ℕ, zero, suc, List, [], ◌∷◌, codes}
use Rattle.spec_value.specs.Tree.{Tree}
use Rattle.spec_syntax.specs.Grammar.{Grammar, empty, mapped, both, either, closed, many, words}
use Rattle.spec_lang.specs.declared.Test.{Test}
use Rattle.spec_lang.specs.declared.Test.TheVariants.{Eq, Ne, Lt, Le, Gt, Ge}
use Rattle.spec_lang.specs.Matcher as meant
use Rattle.spec_syntax.specs.Path.{path}
use Rattle.spec_syntax.specs.Value.{value}

-- a matcher and more of them, of which there may be none
abbrev pub all_of : meant.Matcher → List meant.Matcher → meant.Matcher
all_of m [] = m
all_of m (n ∷ ms) = meant.both (meant.matchers (m ∷ n ∷ ms))

abbrev pub any_of : meant.Matcher → List meant.Matcher → meant.Matcher
any_of m [] = m
any_of m (n ∷ ms) = meant.either (meant.matchers (m ∷ n ∷ ms))

-- what stands between two units
pub data Joint : Type 0 where
  conjunction : Joint
  disjunction : Joint

-- the units up to the next " or "
abbrev pub up_to_or : List (Joint × meant.Matcher) → List meant.Matcher
up_to_or [] = []
up_to_or ((conjunction, m) ∷ rest) = m ∷ up_to_or rest
up_to_or ((disjunction, m) ∷ rest) = []

-- what stands between two " or ", after the first of them
abbrev pub after_or : List (Joint × meant.Matcher) → List meant.Matcher
after_or [] = []
after_or ((conjunction, m) ∷ rest) = after_or rest
after_or ((disjunction, m) ∷ rest) = all_of m (up_to_or rest) ∷ after_or rest

-- " and " binds closer than " or "
abbrev pub chained : meant.Matcher × List (Joint × meant.Matcher) → meant.Matcher
chained c = any_of (all_of c.0 (up_to_or c.1)) (after_or c.1)

abbrev pub joint_words : List (List ℕ × Joint)
joint_words = (codes " and ", conjunction) ∷ (codes " or ", disjunction) ∷ []

abbrev pub joined_unit : Grammar meant.Matcher → Joint → Grammar (Joint × meant.Matcher)
joined_unit U joint = mapped (λ m. (joint, m)) U

-- matcher = conj {" or " conj}, conj = unit {" and " unit}: units, with one of the two words between every two
abbrev pub chain : Grammar meant.Matcher → Grammar meant.Matcher
chain U = mapped chained (both U (many (words (joined_unit U) joint_words)))

abbrev pub test_words : List (List ℕ × Test)
test_words =
    (codes " = ", Eq) ∷ (codes " != ", Ne) ∷ (codes " < ", Lt) ∷ (codes " <= ", Le)
    ∷ (codes " > ", Gt) ∷ (codes " >= ", Ge) ∷ []

abbrev pub tested : Test → Grammar (Test × Tree)
tested test = mapped (λ v. (test, v)) (value 64)

-- path " " test " " value
abbrev pub comparison : Grammar meant.Matcher
comparison = mapped (λ c. meant.is c.0 c.1.0 c.1.1) (both path (words tested test_words))

-- a unit that begins with a word, by what stands after it
pub data Form : Type 0 where
  ready : meant.Matcher → Form
  negated : Form
  enclosed : Form

abbrev pub formed : Grammar meant.Matcher → Form → Grammar meant.Matcher
formed U (ready m) = mapped (λ _. m) empty
formed U negated = mapped meant.negation U
formed U enclosed = closed (chain U) (codes ")")

abbrev pub flat_words : List (List ℕ × Form)
flat_words = (codes "all", ready meant.all) ∷ (codes "none", ready meant.nothing) ∷ []

abbrev pub unit_words : List (List ℕ × Form)
unit_words = (codes "not ", negated) ∷ (codes "(", enclosed) ∷ flat_words

-- unit = "not " unit | "(" matcher ")" | "all" | "none" | path " " test " " value, the first two nested at most so deep
unfoldable pub unit : ℕ → Grammar meant.Matcher
unit zero m bs = either comparison (words (formed comparison) flat_words) m bs
unit (suc depth) m bs = either comparison (words (formed (unit depth)) unit_words) m bs

-- matchers nested at most 8 deep
abbrev pub matcher : Grammar meant.Matcher
matcher = chain (unit 8)
