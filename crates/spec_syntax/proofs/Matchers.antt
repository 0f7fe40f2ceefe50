-- The reader of matchers reads its grammar.
use Rattle.std.proofs.Common.{◌≡◌, ℕ, zero, suc, Bool, true, false, ◌||◌, List, [], ◌∷◌, ◌++◌, refl, ap, ◌∙◌, inl, arith, codes}
use Rattle.std.proofs.lemmas.Bool.Decides.{nat_tests}
use Rattle.spec_syntax.specs.Grammar.{Grammar, empty, word, both, many, words}
use Rattle.spec_syntax.specs.Reader.{Reader, first_is, nothing, seq, all_of, table}
use Rattle.spec_syntax.proofs.ReadSteps.{Tails, followed, Reads, Has, HasTail}
use Rattle.spec_syntax.proofs.Sequences.{followed_has, made_of_reads, nothing_step, seq_reads, close_reads}
use Rattle.spec_syntax.proofs.Choices.{or_else_reads}
use Rattle.spec_syntax.proofs.Repetitions.{Begun, Unbegun, first_is-append, starts_begun, many_reads, unbegun_word}
use Rattle.spec_syntax.proofs.Tables.{table_reads}
use Rattle.spec_lang.specs.declared.Test.{Test}
use Rattle.spec_lang.specs.declared.Test.TheVariants.{Eq, Ne, Lt, Le, Gt, Ge}
use Rattle.spec_lang.specs.Matcher as meant
use Rattle.spec_syntax.specs.Number.{between, is_digit}
use Rattle.spec_syntax.specs.Path.{path}
use Rattle.spec_syntax.specs.Value.{value}
use Rattle.spec_syntax.specs.Matcher.{Joint, conjunction, disjunction, chained, joint_words, joined_unit, chain, test_words, tested, comparison, Form, ready, negated, enclosed, formed, flat_words, unit_words, unit, matcher}
use Rattle.spec_syntax.specs.ValueReader.{is, read_nested}
use Rattle.spec_syntax.specs.LanguageReader.{read_path, read_joined, read_chain, read_tested, read_comparison, read_formed, read_unit, read_matcher}
use Rattle.spec_syntax.proofs.Firsts.{none_outside}
use Rattle.spec_syntax.proofs.Values.{value_reads, has_value}
use Rattle.spec_syntax.proofs.Lists.{ReadsAhead}
use Rattle.spec_syntax.proofs.Ahead.{has_many, begun_words, unbegun_followed, unbegun_many_of}
use Rattle.spec_syntax.proofs.Paths.{on_path, begun_path, has_path, path_reads}

has_tested : (test : Test) → Has (tested test)
has_tested test = let some : Has (value 64) = has_value 64 in ((test, some.0), some.1, (some.0, some.2, refl))

pub tested_reads : (n : ℕ) (F : Tails) → HasTail F → Unbegun is_digit F → (test : Test) → Reads n (tested test) F (read_tested test)
tested_reads n F some un test = made_of_reads n (λ v. (test, v)) (value 64) F (read_nested 64) (value_reads n 64 F some un)

begun_tests : Begun (is 32) (words tested test_words)
begun_tests = begun_words (is 32) tested test_words (refl, (refl, (refl, (refl, (refl, (refl, tt))))))

spaced : (b : ℕ) → is 32 b ≡ true → on_path b ≡ false
spaced b h = grind (arith, nat_tests)

has_tests : Has (words tested test_words)
has_tests = let some : Has (tested Eq) = has_tested Eq in (some.0, codes " = " ++ some.1, inl ((tt, some.0), (codes " = ", some.1, refl, some.2, refl), refl))

tests_read : (n : ℕ) (F : Tails) → HasTail F → Unbegun is_digit F → Reads n (words tested test_words) F (table read_tested test_words)
tests_read n F some un =
    table_reads n tested read_tested F some has_tested (tested_reads n F some un)
    (codes " = ", Eq) ((codes " != ", Ne) ∷ (codes " < ", Lt) ∷ (codes " <= ", Le) ∷ (codes " > ", Gt) ∷ (codes " >= ", Ge) ∷ [])
    ((refl, (refl, (refl, (refl, (refl, tt))))), ((refl, (refl, (refl, (refl, tt)))), ((refl, (refl, (refl, tt))), ((refl, (refl, tt)), ((refl, tt), (tt, tt))))))

pub comparison_reads : (n : ℕ) → ReadsAhead n is_digit comparison read_comparison
comparison_reads n F some un =
    made_of_reads n (λ c. meant.is c.0 c.1.0 c.1.1) (both path (words tested test_words)) F (seq read_path (table read_tested test_words))
    (seq_reads n path (words tested test_words) F read_path (table read_tested test_words)
    (path_reads n (followed (words tested test_words) F) (followed_has (words tested test_words) F has_tests some) (unbegun_followed on_path (is 32) (words tested test_words) F spaced begun_tests))
    (tests_read n F some un))

begun_comparison : Begun (is 46) comparison
begun_comparison m t s = begun_prefix t s.1.0 s.1.1 (begun_path s.0.0 s.1.0 s.1.2) s.1.4
  where
    begun_prefix : (t u v : List ℕ) → first_is (is 46) u ≡ true → t ≡ u ++ v → first_is (is 46) t ≡ true
    begun_prefix t u v h e = ap (first_is (is 46)) e ∙ first_is-append (is 46) u v h

pub has_comparison : Has comparison
has_comparison =
    let one : Has (words tested test_words) = has_tests in
    (meant.is [] one.0.0 one.0.1, 46 ∷ one.1, (([], one.0), (46 ∷ [], one.1, has_path.2, one.2, refl), refl))

-- units with " and " or " or " between them
pub begun_joined : (U : Grammar meant.Matcher) → Begun (is 32) (words (joined_unit U) joint_words)
begun_joined U = begun_words (is 32) (joined_unit U) joint_words (refl, (refl, tt))

undigit : (b : ℕ) → is 32 b ≡ true → is_digit b ≡ false
undigit b h = grind (arith, nat_tests)

pub chain_reads : (n : ℕ) (U : Grammar meant.Matcher) (r : Reader meant.Matcher) (F : Tails) → Has U → HasTail F → Unbegun (is 32) F → Unbegun is_digit F → ReadsAhead n is_digit U r → Reads n (chain U) F (read_chain r)
chain_reads n U r F has some spaceless un reads =
    let W : Grammar (Joint × meant.Matcher) = words (joined_unit U) joint_words in
    let more : HasTail (followed (many W) F) = has_many W F some in
    let one : Reads n U (followed (many W) F) r = reads (followed (many W) F) more (unbegun_many_of is_digit (is 32) W F undigit (begun_joined U) un) in
    made_of_reads n chained (both U (many W)) F (seq r (all_of (is 32) (table (read_joined r) joint_words)))
    (seq_reads n U (many W) F r (all_of (is 32) (table (read_joined r) joint_words)) one
    (many_reads n (is 32) W F (table (read_joined r) joint_words) (begun_joined U) spaceless
    (table_reads n (joined_unit U) (read_joined r) (followed (many W) F) more (λ joint. ((joint, has.0), has.1, (has.0, has.2, refl)))
    (λ joint. made_of_reads n (λ m. (joint, m)) U (followed (many W) F) r one)
    (codes " and ", conjunction) ((codes " or ", disjunction) ∷ []) ((refl, tt), (tt, tt)))))

has_chain : (U : Grammar meant.Matcher) → Has U → Has (chain U)
has_chain U has = (has.0, has.1 ++ [], ((has.0, []), (has.1, [], has.2, refl, refl), refl))

has_formed : (U : Grammar meant.Matcher) → Has U → (form : Form) → Has (formed U form)
has_formed U has (ready m) = (m, [], (tt, refl, refl))
has_formed U has negated = (meant.negation has.0, has.1, (has.0, has.2, refl))
has_formed U has enclosed = let some : Has (chain U) = has_chain U has in (some.0, some.1 ++ 41 ∷ [], ((some.0, tt), (some.1, 41 ∷ [], some.2, refl, refl), refl))

pub formed_reads : (n : ℕ) (U : Grammar meant.Matcher) (r : Reader meant.Matcher) (F : Tails) → Has U → HasTail F → Unbegun is_digit F → ReadsAhead n is_digit U r → (form : Form) → Reads n (formed U form) F (read_formed r form)
formed_reads n U r F has some un reads (ready m) = made_of_reads n (λ _. m) empty F nothing (λ bs h. nothing_step F bs)
formed_reads n U r F has some un reads negated = made_of_reads n meant.negation U F r (reads F some un)
formed_reads n U r F has some un reads enclosed =
    close_reads n (chain U) (codes ")") F (read_chain r) some
    (chain_reads n U r (followed (word (codes ")")) F) has (followed_has (word (codes ")")) F (tt, 41 ∷ [], refl) some) (unbegun_word (is 32) 41 [] F refl) (unbegun_word is_digit 41 [] F refl) reads)

-- a letter or a parenthesis
abbrev is_word : ℕ → Bool
is_word b = between 97 122 b || is 40 b

-- a unit nested at most so deep
pub has_unit : (depth : ℕ) → Has (unit depth)
unfolding unit
has_unit zero = let some : Has comparison = has_comparison in (some.0, some.1, inl some.2)
has_unit (suc depth) = let some : Has comparison = has_comparison in (some.0, some.1, inl some.2)

pub unit_reads : (n depth : ℕ) → ReadsAhead n is_digit (unit depth) (read_unit depth)
unfolding unit read_unit
unit_reads n zero F some un bs h =
    or_else_reads n (is 46) comparison (words (formed comparison) flat_words) F read_comparison (table (read_formed read_comparison) flat_words)
    (starts_begun (is 46) comparison F begun_comparison)
    (none_outside is_word 46 (words (formed comparison) flat_words) F refl (begun_words is_word (formed comparison) flat_words (refl, (refl, tt))))
    (comparison_reads n F some un)
    (table_reads n (formed comparison) (read_formed read_comparison) F some (has_formed comparison has_comparison) (formed_reads n comparison read_comparison F has_comparison some un (comparison_reads n))
    (codes "all", ready meant.all) ((codes "none", ready meant.nothing) ∷ []) ((refl, tt), (tt, tt))) bs h
unit_reads n (suc depth) F some un bs h =
    or_else_reads n (is 46) comparison (words (formed (unit depth)) unit_words) F read_comparison (table (read_formed (read_unit depth)) unit_words)
    (starts_begun (is 46) comparison F begun_comparison)
    (none_outside is_word 46 (words (formed (unit depth)) unit_words) F refl (begun_words is_word (formed (unit depth)) unit_words (refl, (refl, (refl, (refl, tt))))))
    (comparison_reads n F some un)
    (table_reads n (formed (unit depth)) (read_formed (read_unit depth)) F some (has_formed (unit depth) (has_unit depth)) (formed_reads n (unit depth) (read_unit depth) F (has_unit depth) some un (unit_reads n depth))
    (codes "not ", negated) ((codes "(", enclosed) ∷ (codes "all", ready meant.all) ∷ (codes "none", ready meant.nothing) ∷ [])
    ((refl, (refl, (refl, tt))), ((refl, (refl, tt)), ((refl, tt), (tt, tt))))) bs h

-- the bytes that go on with a matcher
abbrev pub on_matcher : ℕ → Bool
on_matcher b = is 32 b || is_digit b

pub matcher_reads : (n : ℕ) (F : Tails) → HasTail F → Unbegun (is 32) F → Unbegun is_digit F → Reads n matcher F read_matcher
matcher_reads n F some spaceless un = chain_reads n (unit 8) (read_unit 8) F (has_unit 8) some spaceless un (unit_reads n 8)

pub has_matcher : Has matcher
has_matcher = has_chain (unit 8) (has_unit 8)
