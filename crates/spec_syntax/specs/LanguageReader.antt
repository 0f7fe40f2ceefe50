-- Readers of paths, orders, bounds, functions and matchers on lists of bytes.
use Rattle.std.specs.Prelude.{ℕ, zero, suc, List, [], ◌∷◌, codes}
use Rattle.spec_value.specs.Tree.{Tree}
use Rattle.spec_syntax.specs.Reader.{Reader, nothing, made_of, seq, after_word, close, sep, or_else, repeated, all_of, maybe, table}
use Rattle.spec_lang.specs.Sorting.{Key}
use Rattle.spec_lang.specs.Func.{Func, at_path, number, bytes, count, total, sum}
use Rattle.spec_lang.specs.Matcher as meant
use Rattle.spec_lang.specs.declared.Bounds.{Bounds}
use Rattle.spec_lang.specs.declared.Test.{Test}
use Rattle.spec_syntax.specs.Number.{is_digit}
use Rattle.spec_syntax.specs.Path.{upward, downward}
use Rattle.spec_syntax.specs.Bounds.{bounds_words}
use Rattle.spec_syntax.specs.Func.{list_func}
use Rattle.spec_syntax.specs.Matcher.{Joint, chained, joint_words, test_words, Form, ready, negated, enclosed, flat_words, unit_words}
use Rattle.spec_syntax.specs.ValueReader.{is, read_natural, read_number, read_text, read_bracketed, read_nested}

abbrev pub read_index : Reader ℕ
read_index = read_natural 65535

abbrev pub read_steps : Reader (List ℕ)
read_steps =
    made_of (λ b. b.0 ∷ b.1)
    (seq read_index (repeated 15 (is 46) (after_word (codes ".") read_index)))

abbrev pub read_path : Reader (List ℕ)
read_path = after_word (codes ".") (maybe [] is_digit read_steps)

abbrev pub read_key : Reader Key
read_key =
    or_else (is 100) (made_of downward (after_word (codes "desc ") read_path))
    (made_of upward read_path)

abbrev pub read_order : Reader (List Key)
read_order =
    made_of (λ b. b.0 ∷ b.1) (seq read_key (repeated 7 (is 44) (after_word (codes ", ") read_key)))

abbrev pub read_short : Reader ℕ
read_short = read_natural 4294967295

abbrev pub read_two_numbers : (ℕ → ℕ → Bounds) → Reader Bounds
read_two_numbers k = made_of (λ ab. k ab.0 ab.1) (sep read_short (codes " ") read_short)

abbrev pub read_bounds : Reader Bounds
read_bounds = table read_two_numbers bounds_words

abbrev pub read_counting : Reader Func
read_counting = made_of count (after_word (codes "count(") (close read_path (codes ")")))

abbrev pub read_totalling : Reader Func
read_totalling =
    made_of (λ ab. total ab.0 ab.1)
    (after_word (codes "sum(") (close (sep read_path (codes ",") read_path) (codes ")")))

abbrev pub read_flat_func : Reader Func
read_flat_func =
    or_else (is 46) (made_of at_path read_path)
    (or_else (is 34) (made_of bytes read_text)
    (or_else (is 99) read_counting
    (or_else (is 115) read_totalling (made_of number read_number))))

abbrev pub read_adding : Reader Func → Reader Func
read_adding r =
    made_of (λ ab. sum ab.0 ab.1)
    (after_word (codes "add(") (close (sep r (codes ",") r) (codes ")")))

abbrev pub read_listing : Reader Func → Reader Func
read_listing r = made_of list_func (read_bracketed r)

-- a function nested at most so deep
unfoldable pub read_func : ℕ → Reader Func
read_func zero bs = read_flat_func bs
read_func (suc depth) bs =
    or_else (is 97) (read_adding (read_func depth))
    (or_else (is 91) (read_listing (read_func depth)) read_flat_func) bs

abbrev pub read_joined : Reader meant.Matcher → Joint → Reader (Joint × meant.Matcher)
read_joined r joint = made_of (λ m. (joint, m)) r

abbrev pub read_chain : Reader meant.Matcher → Reader meant.Matcher
read_chain r = made_of chained (seq r (all_of (is 32) (table (read_joined r) joint_words)))

abbrev pub read_tested : Test → Reader (Test × Tree)
read_tested test = made_of (λ v. (test, v)) (read_nested 64)

abbrev pub read_comparison : Reader meant.Matcher
read_comparison =
    made_of (λ c. meant.is c.0 c.1.0 c.1.1) (seq read_path (table read_tested test_words))

abbrev pub read_formed : Reader meant.Matcher → Form → Reader meant.Matcher
read_formed r (ready m) = made_of (λ _. m) nothing
read_formed r negated = made_of meant.negation r
read_formed r enclosed = close (read_chain r) (codes ")")

-- a unit of a matcher, nested at most so deep
unfoldable pub read_unit : ℕ → Reader meant.Matcher
read_unit zero bs =
    or_else (is 46) read_comparison (table (read_formed read_comparison) flat_words) bs
read_unit (suc depth) bs =
    or_else (is 46) read_comparison (table (read_formed (read_unit depth)) unit_words) bs

abbrev pub read_matcher : Reader meant.Matcher
read_matcher = read_chain (read_unit 8)
