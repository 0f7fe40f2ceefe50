-- The reading of matchers, by their words, and of chains unit by unit.
use Rattle.std.proofs.Common.{◌≡◌, ℕ, zero, suc, ◌-◌, ◌<◌, Bool, true, false, cond, List, [], ◌∷◌, ◌++◌, length, refl, sym, ap, ◌∙◌, subst, arith, append_assoc, append-nil, length-append, codes}
use Rattle.std.specs.Prelude.{fold}
use Rattle.spec_syntax.specs.Grammar.{words}
use Rattle.spec_syntax.specs.Reader.{Step, found, stopped, Reader, first_is, made, on, repeated, all_of, table}
use Rattle.spec_syntax.proofs.ReadSteps.{no_more, Finds, IsStep, Reads}
use Rattle.spec_syntax.proofs.Sequences.{made_of_reads}
use Rattle.spec_syntax.proofs.Tables.{table_reads}
use Rattle.spec_syntax.proofs.Folds.{folded_is}
use Rattle.spec_lang.specs.declared.Test.{Test}
use Rattle.spec_lang.specs.Matcher as meant
use Rattle.spec_syntax.specs.Number.{is_digit}
use Rattle.spec_syntax.specs.Matcher as grammar
use Rattle.spec_syntax.specs.Matcher.{conjunction, disjunction, up_to_or, after_or, chained, joint_words, joined_unit, test_words, tested, comparison, formed, flat_words, unit_words, unit}
use Rattle.spec_syntax.specs.ValueReader.{is}
use Rattle.spec_syntax.specs.LanguageReader.{read_joined, read_chain, read_tested, read_comparison, read_formed, read_unit}
use Rattle.spec_syntax.proofs.Matchers.{tested_reads, has_comparison, comparison_reads, formed_reads, has_unit, unit_reads, begun_joined}
use Rattle.spec_lines.proofs.Apart.{apart_from}
use Rattle.spec_lines.proofs.Composites.{ends, nothing_follows}
use Rattle.gl_line_reader.specs.declared.matcher.Joint.{Joint}
use Rattle.gl_line_reader.specs.declared.matcher.Opening.{Opening}
use Rattle.gl_line_reader.specs.Chains.{Parts, joint_of, joints, opened, openings, constant, flat_of, flat_openings, all_parts, any_part, put, finish, read_part, read_others}
use Rattle.gl_line_reader.proofs.Names.{first_some}
use Rattle.gl_line_reader.proofs.Tables.{table_on, reads_short}

-- a test and its literal
tests_are : (bs : List ℕ) → table read_tested test_words bs ≡ on (table found test_words bs) read_tested
tests_are bs = table_on (λ test. test) read_tested test_words bs (apart_from test_words refl) (λ test. reads_short (tested test) no_more (read_tested test) (λ n. tested_reads n no_more nothing_follows (ends is_digit) test))

pub tested_on : (bs r1 : List ℕ) (test : Test) → table found test_words bs ≡ found test r1 → table read_tested test_words bs ≡ read_tested test r1
tested_on bs r1 test h = tests_are bs ∙ ap (λ st. on st read_tested) h

pub tested_stops : (bs : List ℕ) (left : ℕ) → table found test_words bs ≡ stopped left → table read_tested test_words bs ≡ stopped left
tested_stops bs left h = tests_are bs ∙ ap (λ st. on st read_tested) h

-- a joint and its unit
joined_one : (depth n : ℕ) (joint : grammar.Joint) → Reads n (joined_unit (unit depth) joint) no_more (read_joined (read_unit depth) joint)
joined_one depth n joint = made_of_reads n (λ m. (joint, m)) (unit depth) no_more (read_unit depth) (unit_reads n depth no_more nothing_follows (ends is_digit))

joined_are : (depth : ℕ) (bs : List ℕ) → read_part (read_unit depth) bs ≡ on (table found joints bs) (λ joint rest. read_joined (read_unit depth) (joint_of joint) rest)
unfolding read_part
joined_are depth bs = table_on joint_of (read_joined (read_unit depth)) joints bs (apart_from joints refl) (λ joint. reads_short (joined_unit (unit depth) joint) no_more (read_joined (read_unit depth) joint) (λ n. joined_one depth n joint))

pub joined_on : (depth : ℕ) (bs r1 : List ℕ) (joint : Joint) → table found joints bs ≡ found joint r1 → read_part (read_unit depth) bs ≡ read_joined (read_unit depth) (joint_of joint) r1
joined_on depth bs r1 joint h = joined_are depth bs ∙ ap (λ st. on st (λ joint rest. read_joined (read_unit depth) (joint_of joint) rest)) h

pub joined_stops : (depth : ℕ) (bs : List ℕ) (left : ℕ) → table found joints bs ≡ stopped left → read_part (read_unit depth) bs ≡ stopped left
joined_stops depth bs left h = joined_are depth bs ∙ ap (λ st. on st (λ joint rest. read_joined (read_unit depth) (joint_of joint) rest)) h

joined_reads : (depth n : ℕ) → Reads n (words (joined_unit (unit depth)) joint_words) no_more (read_part (read_unit depth))
unfolding read_part
joined_reads depth n =
    table_reads n (joined_unit (unit depth)) (read_joined (read_unit depth)) no_more nothing_follows (λ joint. let has = has_unit depth in ((joint, has.0), has.1, (has.0, has.2, refl)))
    (joined_one depth n) (codes " and ", conjunction) ((codes " or ", disjunction) ∷ []) ((refl, tt), (tt, tt))

prefix_some : (depth : ℕ) (bs : List ℕ) (x : grammar.Joint × meant.Matcher) (rest : List ℕ) → Finds (words (joined_unit (unit depth)) joint_words) no_more bs x rest → length rest < length bs
prefix_some depth bs x rest f = omega (arith, ap length f.are, length-append f.prefix rest, first_some (is 32) f.prefix (begun_joined (unit depth) x f.prefix f.spelled))

pub joined_rest : (depth : ℕ) (bs : List ℕ) (x : grammar.Joint × meant.Matcher) (rest : List ℕ) → read_part (read_unit depth) bs ≡ found x rest → length rest < length bs
joined_rest depth bs x rest h = prefix_some depth bs x rest (subst (λ st. IsStep (words (joined_unit (unit depth)) joint_words) no_more bs st) h (joined_reads depth (length bs) bs (omega arith)))

-- a unit, by its first byte and its word
pub unit_compares : (depth : ℕ) (bs : List ℕ) → first_is (is 46) bs ≡ true → read_unit depth bs ≡ read_comparison bs
unfolding read_unit
unit_compares zero bs h = ap (λ x. cond x (read_comparison bs) (table (read_formed read_comparison) flat_words bs)) h
unit_compares (suc depth) bs h = ap (λ x. cond x (read_comparison bs) (table (read_formed (read_unit depth)) unit_words bs)) h

flat_is : (depth : ℕ) (bs : List ℕ) → depth ≡ 0 → first_is (is 46) bs ≡ false → read_unit depth bs ≡ on (table found flat_openings bs) (λ everything rest. found (constant everything) rest)
unfolding read_unit
flat_is zero bs e h =
    ap (λ x. cond x (read_comparison bs) (table (read_formed read_comparison) flat_words bs)) h
    ∙ table_on flat_of (read_formed read_comparison) flat_openings bs (apart_from flat_openings refl) (λ form. reads_short (formed comparison form) no_more (read_formed read_comparison form) (λ n. formed_reads n comparison read_comparison no_more has_comparison nothing_follows (ends is_digit) (comparison_reads n) form))
flat_is (suc depth) bs e h = absurd (omega arith)

pub unit_flat_on : (depth : ℕ) (bs r1 : List ℕ) (everything : Bool) → depth ≡ 0 → first_is (is 46) bs ≡ false → table found flat_openings bs ≡ found everything r1 → read_unit depth bs ≡ found (constant everything) r1
unit_flat_on depth bs r1 everything e h g = flat_is depth bs e h ∙ ap (λ st. on st (λ everything rest. found (constant everything) rest)) g

pub unit_flat_stops : (depth : ℕ) (bs : List ℕ) (left : ℕ) → depth ≡ 0 → first_is (is 46) bs ≡ false → table found flat_openings bs ≡ stopped left → read_unit depth bs ≡ stopped left
unit_flat_stops depth bs left e h g = flat_is depth bs e h ∙ ap (λ st. on st (λ everything rest. found (constant everything) rest)) g

unit_is : (depth : ℕ) (bs : List ℕ) → 0 < depth → first_is (is 46) bs ≡ false → read_unit depth bs ≡ on (table found openings bs) (λ opening rest. read_formed (read_unit (depth - 1)) (opened opening) rest)
unfolding read_unit
unit_is zero bs e h = absurd (omega arith)
unit_is (suc depth) bs e h =
    ap (λ x. cond x (read_comparison bs) (table (read_formed (read_unit depth)) unit_words bs)) h
    ∙ table_on opened (read_formed (read_unit depth)) openings bs (apart_from openings refl) (λ form. reads_short (formed (unit depth) form) no_more (read_formed (read_unit depth) form) (λ n. formed_reads n (unit depth) (read_unit depth) no_more (has_unit depth) nothing_follows (ends is_digit) (unit_reads n depth) form))
    ∙ ap (λ d. on (table found openings bs) (λ opening rest. read_formed (read_unit d) (opened opening) rest)) (let k : depth ≡ suc depth - 1 = omega arith in k)

pub unit_on : (depth : ℕ) (bs r1 : List ℕ) (opening : Opening) → 0 < depth → first_is (is 46) bs ≡ false → table found openings bs ≡ found opening r1 → read_unit depth bs ≡ read_formed (read_unit (depth - 1)) (opened opening) r1
unit_on depth bs r1 opening e h g = unit_is depth bs e h ∙ ap (λ st. on st (λ opening rest. read_formed (read_unit (depth - 1)) (opened opening) rest)) g

pub unit_stops : (depth : ℕ) (bs : List ℕ) (left : ℕ) → 0 < depth → first_is (is 46) bs ≡ false → table found openings bs ≡ stopped left → read_unit depth bs ≡ stopped left
unit_stops depth bs left e h g = unit_is depth bs e h ∙ ap (λ st. on st (λ opening rest. read_formed (read_unit (depth - 1)) (opened opening) rest)) g

-- parts of a chain
pub all_more : (ms : List meant.Matcher) → 1 < length ms → all_parts ms ≡ meant.both (meant.matchers ms)
all_more [] h = absurd (omega arith)
all_more (m ∷ []) h = absurd (omega arith)
all_more (m ∷ n ∷ ms) h = refl

pub any_more : (ms : List meant.Matcher) → 1 < length ms → any_part ms ≡ meant.either (meant.matchers ms)
any_more [] h = absurd (omega arith)
any_more (m ∷ []) h = absurd (omega arith)
any_more (m ∷ n ∷ ms) h = refl

pub all_one : (ms : List meant.Matcher) (m : meant.Matcher) → m ∷ [] ≡ ms → all_parts ms ≡ m
all_one ms m e = ap all_parts (sym e)

pub any_one : (ms : List meant.Matcher) (m : meant.Matcher) → m ∷ [] ≡ ms → any_part ms ≡ m
any_one ms m e = ap any_part (sym e)

pub only_one : (prefix ms : List meant.Matcher) (m : meant.Matcher) → prefix ++ m ∷ [] ≡ ms → length ms ≡ 1 → m ∷ [] ≡ ms
only_one [] ms m e l = e
only_one (n ∷ prefix) ms m e l = absurd (omega (arith, ap length e, length-append prefix (m ∷ [])))

-- units that are put one by one, and units that are parted at the end
finish_is : (list : List (grammar.Joint × meant.Matcher)) (parts : Parts) → finish (fold put parts list) ≡ any_part (parts.0 ++ all_parts (parts.1 ++ up_to_or list) ∷ after_or list)
finish_is [] parts = ap (λ units. any_part (parts.0 ++ all_parts units ∷ [])) (sym (append-nil parts.1))
finish_is ((conjunction, m) ∷ list) parts = finish_is list (parts.0, parts.1 ++ m ∷ []) ∙ ap (λ units. any_part (parts.0 ++ all_parts units ∷ after_or list)) (append_assoc parts.1 (m ∷ []) (up_to_or list))
finish_is ((disjunction, m) ∷ list) parts =
    finish_is list (parts.0 ++ all_parts parts.1 ∷ [], m ∷ [])
    ∙ ap any_part (append_assoc parts.0 (all_parts parts.1 ∷ []) (all_parts (m ∷ up_to_or list) ∷ after_or list))
    ∙ ap (λ units. any_part (parts.0 ++ all_parts units ∷ all_parts (m ∷ up_to_or list) ∷ after_or list)) (sym (append-nil parts.1))

by_list : (first : meant.Matcher) (st : Step (List (grammar.Joint × meant.Matcher))) → made chained (made (λ b. (first, b)) st) ≡ made finish (made (fold put ([], first ∷ [])) st)
by_list first (found list left) = ap (λ m. found m left) (sym (finish_is list ([], first ∷ [])))
by_list first (stopped left) = refl

chain_is : (r : Reader meant.Matcher) (bs rest : List ℕ) (first : meant.Matcher) → r bs ≡ found first rest → read_chain r bs ≡ made finish (read_others r ([], first ∷ []) rest)
unfolding read_part
chain_is r bs rest first h =
    ap (λ st. made chained (on st (λ a left. made (λ b. (a, b)) (all_of (is 32) (table (read_joined r) joint_words) left)))) h
    ∙ by_list first (repeated (length rest) (is 32) (table (read_joined r) joint_words) rest)
    ∙ ap (made finish) (sym (folded_is put ([], first ∷ []) (length rest) (is 32) (table (read_joined r) joint_words) rest))

pub chain_stops : (r : Reader meant.Matcher) (bs : List ℕ) (left : ℕ) → r bs ≡ stopped left → read_chain r bs ≡ stopped left
chain_stops r bs left h = ap (λ st. made chained (on st (λ a rest. made (λ b. (a, b)) (all_of (is 32) (table (read_joined r) joint_words) rest)))) h

pub chain_on : (r : Reader meant.Matcher) (bs rest : List ℕ) (first : meant.Matcher) (parts : Parts) → r bs ≡ found first rest → parts ≡ ([], first ∷ []) → read_chain r bs ≡ made finish (read_others r parts rest)
chain_on r bs rest first parts h e = chain_is r bs rest first h ∙ ap (λ p. made finish (read_others r p rest)) (sym e)
