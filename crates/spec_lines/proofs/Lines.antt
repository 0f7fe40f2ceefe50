-- The reader of lines reads their grammar.
use Rattle.std.proofs.Common.{◌≡◌, ℕ, ◌+◌, ◌<◌, Bool, true, false, List, [], ◌∷◌, ◌++◌, length, refl, sym, ap, ◌∙◌, inl, inr, arith, codes}
use Rattle.std.proofs.lemmas.Bool.Decides.{nat_tests}
use Rattle.spec_value.specs.Name.{is_name_byte}
use Rattle.spec_syntax.specs.Grammar.{Grammar, empty, word, both, mapped, optional, after, apart, listed, words, AreApart}
use Rattle.spec_syntax.specs.Reader.{Reader, first_is, Verdict, read, fault, whole, nothing, read_word, seq, sep, maybe, table}
use Rattle.spec_syntax.proofs.ReadSteps.{Tails, no_more, followed, Reads, Has, HasTail}
use Rattle.spec_syntax.proofs.Sequences.{followed_has, made_of_reads, nothing_step, seq_reads, sep_reads, word_reads}
use Rattle.spec_syntax.proofs.Repetitions.{Begun, Unbegun, first_is-append, first_other, maybe_reads}
use Rattle.spec_syntax.proofs.Tables.{table_reads}
use Rattle.spec_syntax.proofs.Wholes.{IsVerdict, verdict_of}
use Rattle.spec_syntax.specs.Number.{is_digit, positive}
use Rattle.spec_syntax.specs.Value.{value, bracketed}
use Rattle.spec_syntax.specs.Name.{name, read_name}
use Rattle.spec_syntax.specs.Path.{path, order}
use Rattle.spec_syntax.specs.Bounds as ranges
use Rattle.spec_syntax.specs.Func.{func}
use Rattle.spec_syntax.specs.Matcher.{matcher}
use Rattle.spec_syntax.specs.ValueReader.{is, read_positive, read_nested, read_bracketed}
use Rattle.spec_syntax.specs.LanguageReader.{read_path, read_order, read_short, read_bounds, read_func, read_matcher}
use Rattle.spec_syntax.proofs.Numbers.{positive_reads, natural_reads, has_natural, has_positive}
use Rattle.spec_syntax.proofs.Values.{value_reads, has_value, unclosing_value}
use Rattle.spec_syntax.proofs.Lists.{bracketed_reads, has_bracketed}
use Rattle.spec_syntax.proofs.Names.{name_reads, has_name}
use Rattle.spec_syntax.proofs.Ahead.{has_after, begun_words, unbegun_after}
use Rattle.spec_syntax.proofs.Paths.{on_path, has_path, path_reads, on_order, has_order, order_reads, has_bounds, bounds_reads}
use Rattle.spec_syntax.proofs.Funcs.{has_func, func_reads}
use Rattle.spec_syntax.proofs.Matchers.{has_matcher, matcher_reads}
use Rattle.gl_lines.specs.declared.named.Named.{Named}
use Rattle.gl_lines.specs.declared.line.Line.{Line}
use Rattle.gl_lines.specs.declared.line.Line.TheVariants as line
use Rattle.spec_lines.specs.Line.{at, Form, bare, limited, one_name, two_names, name_value, name_values, name_matcher, name_order, name_bounds, name_func, name_index, name_index_value, names_matcher, names_order, names_bounds, names_func, names_path, composed, listened, with_name, with_names, index_value, composite_part, composite_line, Ending, after_names, only_echo, echo, ending, ending_words, endings, listen_line, formed, line_words, line_of_text}
use Rattle.spec_lines.specs.Reader.{read_with_name, read_with_names, read_index_value, read_names, read_composite_part, read_echo, read_ending, read_endings, read_formed, read_line}
use Rattle.spec_lines.proofs.Apart.{apart_from}
use Rattle.spec_lines.proofs.Composites.{ends, nothing_follows, names_reads, has_names, after_member, after_has, after_unnamed, composite_step, space_in_none}

has_mapped : {A B : Type 0} (k : A → B) (S : Grammar A) → Has S → Has (mapped k S)
has_mapped k S some = (k some.0, some.1, (some.0, some.2, refl))

has_both : {A B : Type 0} (P : Grammar A) (Q : Grammar B) → Has P → Has Q → Has (both P Q)
has_both P Q p q = ((p.0, q.0), p.1 ++ q.1, (p.1, q.1, p.2, q.2, refl))

has_apart : {A B : Type 0} (P : Grammar A) (w : List ℕ) (Q : Grammar B) → Has P → Has Q → Has (apart P w Q)
has_apart P w Q p q = has_both P (after w Q) p (has_after w Q q)

-- a name, a space and more
named_reads : {A : Type 0} (n : ℕ) (S : Grammar A) (r : Reader A) → Has S → Reads n S no_more r → Reads n (apart name (codes " ") S) no_more (sep read_name (codes " ") r)
named_reads n S r has reads =
    sep_reads n name (codes " ") S no_more read_name r has nothing_follows
    (name_reads n (followed (after (codes " ") S) no_more) (followed_has (after (codes " ") S) no_more (has_after (codes " ") S has) nothing_follows) (unbegun_after is_name_byte 32 [] S no_more refl))
    reads

with_reads : {A : Type 0} (n column : ℕ) (k : Named → A → Line) (S : Grammar A) (r : Reader A) → Has S → Reads n S no_more r → Reads n (with_name column k S) no_more (read_with_name column k r)
with_reads n column k S r has reads = made_of_reads n (λ ab. k (at column ab.0) ab.1) (apart name (codes " ") S) no_more (sep read_name (codes " ") r) (named_reads n S r has reads)

has_with : {A : Type 0} (column : ℕ) (k : Named → A → Line) (S : Grammar A) → Has S → Has (with_name column k S)
has_with column k S has = has_mapped (λ ab. k (at column ab.0) ab.1) (apart name (codes " ") S) (has_apart name (codes " ") S has_name has)

both_reads : {A : Type 0} (n column : ℕ) (k : Named → Named → A → Line) (S : Grammar A) (r : Reader A) → Has S → Reads n S no_more r → Reads n (with_names column k S) no_more (read_with_names column k r)
both_reads n column k S r has reads =
    made_of_reads n (λ abc. k (at column abc.0) (at (column + length abc.0 + 1) abc.1.0) abc.1.1) (apart name (codes " ") (apart name (codes " ") S)) no_more (sep read_name (codes " ") (sep read_name (codes " ") r))
    (named_reads n (apart name (codes " ") S) (sep read_name (codes " ") r) (has_apart name (codes " ") S has_name has) (named_reads n S r has reads))

has_two_and : {A : Type 0} (column : ℕ) (k : Named → Named → A → Line) (S : Grammar A) → Has S → Has (with_names column k S)
has_two_and column k S has =
    has_mapped (λ abc. k (at column abc.0) (at (column + length abc.0 + 1) abc.1.0) abc.1.1) (apart name (codes " ") (apart name (codes " ") S))
    (has_apart name (codes " ") (apart name (codes " ") S) has_name (has_apart name (codes " ") S has_name has))

-- what may stand after a thing that may be left out
unbegun_optional : {A : Type 0} (p q : ℕ → Bool) (a : A) (S : Grammar A) (F : Tails) → ((b : ℕ) → q b ≡ true → p b ≡ false) → Begun q S → Unbegun p F → Unbegun p (followed (optional a S) F)
unbegun_optional p q a S F other begun un v s = elim s.3 as (λ _. first_is p v ≡ false) [
  | inl g ↦ ap (first_is p) s.5 ∙ first_other q p (s.1 ++ s.2) other (first_is-append q s.1 s.2 (begun s.0 s.1 g))
  | inr g ↦ ap (first_is p) (s.5 ∙ ap (λ x. x ++ s.2) g.1) ∙ un s.2 s.4
]

has_optional : {A : Type 0} (a : A) (S : Grammar A) → HasTail (followed (optional a S) no_more)
has_optional a S = ([], (a, [], [], inr (tt, refl, refl), refl, refl))

begun_echo : Begun (is 32) echo
begun_echo a t s = ap (first_is (is 32)) s.1

not_comma : (c : ℕ) → is 32 c ≡ true → is 44 c ≡ false
not_comma c h = grind (arith, nat_tests)

pub ending_reads : (n : ℕ) (e : Ending) → Reads n (ending e) no_more (read_ending e)
ending_reads n after_names =
    seq_reads n (listed name (codes ",")) (optional false echo) no_more (read_names 44 (codes ",")) (maybe false (is 32) read_echo)
    (names_reads n 44 [] (followed (optional false echo) no_more) refl (has_optional false echo)
    (unbegun_optional (is 44) (is 32) false echo no_more not_comma begun_echo (ends (is 44))) (unbegun_optional is_name_byte (is 32) false echo no_more space_in_none begun_echo (ends is_name_byte)))
    (maybe_reads n false (is 32) echo no_more read_echo begun_echo (ends (is 32)) (made_of_reads n (λ _. true) (word (codes " echo")) no_more (read_word (codes " echo")) (word_reads n (codes " echo") no_more nothing_follows)))
ending_reads n only_echo = made_of_reads n (λ _. ([], true)) empty no_more nothing (λ bs h. nothing_step no_more bs)

has_ending : (e : Ending) → Has (ending e)
has_ending after_names = has_both (listed name (codes ",")) (optional false echo) (has_names 44 []) (false, [], inr (tt, refl, refl))
has_ending only_echo = (([], true), [], (tt, refl, refl))

begun_endings : Begun (is 32) (words ending ending_words)
begun_endings = begun_words (is 32) ending ending_words (refl, (refl, tt))

endings_reads : (n : ℕ) → Reads n endings no_more read_endings
endings_reads n =
    maybe_reads n ([], false) (is 32) (words ending ending_words) no_more (table read_ending ending_words) begun_endings (ends (is 32))
    (table_reads n ending read_ending no_more nothing_follows has_ending (ending_reads n) (codes " after ", after_names) ((codes " echo", only_echo) ∷ []) ((refl, tt), (tt, tt)))

listened_reads : (n : ℕ) → Reads n (apart name (codes " on ") (both name endings)) no_more (sep read_name (codes " on ") (seq read_name read_endings))
listened_reads n =
    let some : Has (both name endings) = has_both name endings has_name (([], false), [], inr (tt, refl, refl)) in
    sep_reads n name (codes " on ") (both name endings) no_more read_name (seq read_name read_endings) some nothing_follows
    (name_reads n (followed (after (codes " on ") (both name endings)) no_more) (followed_has (after (codes " on ") (both name endings)) no_more (has_after (codes " on ") (both name endings) some) nothing_follows)
    (unbegun_after is_name_byte 32 (codes "on ") (both name endings) no_more refl))
    (seq_reads n name endings no_more read_name read_endings
    (name_reads n (followed endings no_more) (has_optional ([], false) (words ending ending_words)) (unbegun_optional is_name_byte (is 32) ([], false) (words ending ending_words) no_more space_in_none begun_endings (ends is_name_byte)))
    (endings_reads n))

value_ends : (n : ℕ) → Reads n (value 64) no_more (read_nested 64)
value_ends n = value_reads n 64 no_more nothing_follows (ends is_digit)

index_ends : (n : ℕ) → Reads n ranges.short_number no_more read_short
index_ends n = natural_reads n 4294967295 no_more nothing_follows (ends is_digit)

index_value_reads : (n : ℕ) → Reads n index_value no_more read_index_value
index_value_reads n =
    sep_reads n ranges.short_number (codes " ") (value 64) no_more read_short (read_nested 64) (has_value 64) nothing_follows
    (natural_reads n 4294967295 (followed (after (codes " ") (value 64)) no_more) (followed_has (after (codes " ") (value 64)) no_more (has_after (codes " ") (value 64) (has_value 64)) nothing_follows) (unbegun_after is_digit 32 [] (value 64) no_more refl))
    (value_ends n)

values_reads : (n : ℕ) → Reads n (bracketed (value 63)) no_more (read_bracketed (read_nested 63))
values_reads n bs h = bracketed_reads n is_digit (value 63) (read_nested 63) no_more refl refl (has_value 63) (unclosing_value 63) nothing_follows (value_reads n 63) bs (omega arith)

matcher_ends : (n : ℕ) → Reads n matcher no_more read_matcher
matcher_ends n = matcher_reads n no_more nothing_follows (ends (is 32)) (ends is_digit)

order_ends : (n : ℕ) → Reads n order no_more read_order
order_ends n = order_reads n no_more nothing_follows (ends on_order)

bounds_ends : (n : ℕ) → Reads n ranges.bounds no_more read_bounds
bounds_ends n = bounds_reads n no_more nothing_follows (ends is_digit)

func_ends : (n : ℕ) → Reads n (func 8) no_more (read_func 8)
func_ends n = func_reads n 8 no_more nothing_follows (ends on_path)

name_ends : (n : ℕ) → Reads n name no_more read_name
name_ends n = name_reads n no_more nothing_follows (ends is_name_byte)

pub formed_reads : (n : ℕ) (k : ℕ × Form) → Reads n (formed k) no_more (read_formed k)
formed_reads n (column, bare l) = made_of_reads n (λ _. l) empty no_more nothing (λ bs h. nothing_step no_more bs)
formed_reads n (column, limited) = made_of_reads n line.Limit (positive 16777216) no_more (read_positive 16777216) (positive_reads n 16777216 no_more nothing_follows (ends is_digit))
formed_reads n (column, one_name k) = made_of_reads n (λ m. k (at column m)) name no_more read_name (name_ends n)
formed_reads n (column, two_names k) = made_of_reads n (λ ab. k (at column ab.0) (at (column + length ab.0 + 1) ab.1)) (apart name (codes " ") name) no_more (sep read_name (codes " ") read_name) (named_reads n name read_name has_name (name_ends n))
formed_reads n (column, name_value k) = with_reads n column k (value 64) (read_nested 64) (has_value 64) (value_ends n)
formed_reads n (column, name_values k) = with_reads n column k (bracketed (value 63)) (read_bracketed (read_nested 63)) (has_bracketed (value 63)) (values_reads n)
formed_reads n (column, name_matcher k) = with_reads n column k matcher read_matcher has_matcher (matcher_ends n)
formed_reads n (column, name_order k) = with_reads n column k order read_order has_order (order_ends n)
formed_reads n (column, name_bounds k) = with_reads n column k ranges.bounds read_bounds has_bounds (bounds_ends n)
formed_reads n (column, name_func k) = with_reads n column k (func 8) (read_func 8) (has_func 8) (func_ends n)
formed_reads n (column, name_index k) = with_reads n column k ranges.short_number read_short (has_natural 4294967295) (index_ends n)
formed_reads n (column, name_index_value k) = with_reads n column (λ m iv. k m iv.0 iv.1) index_value read_index_value (has_apart ranges.short_number (codes " ") (value 64) (has_natural 4294967295) (has_value 64)) (index_value_reads n)
formed_reads n (column, names_matcher k) = both_reads n column k matcher read_matcher has_matcher (matcher_ends n)
formed_reads n (column, names_order k) = both_reads n column k order read_order has_order (order_ends n)
formed_reads n (column, names_bounds k) = both_reads n column k ranges.bounds read_bounds has_bounds (bounds_ends n)
formed_reads n (column, names_func k) = both_reads n column k (func 8) (read_func 8) (has_func 8) (func_ends n)
formed_reads n (column, names_path k) = both_reads n column k path read_path has_path (path_reads n no_more nothing_follows (ends on_path))
formed_reads n (column, composed) =
    made_of_reads n (composite_line column) (both name composite_part) no_more (seq read_name read_composite_part)
    (seq_reads n name composite_part no_more read_name read_composite_part (name_reads n after_member after_has after_unnamed) (λ bs h. composite_step (length bs) bs (omega arith)))
formed_reads n (column, listened) = made_of_reads n (listen_line column) (apart name (codes " on ") (both name endings)) no_more (sep read_name (codes " on ") (seq read_name read_endings)) (listened_reads n)

has_formed : (k : ℕ × Form) → Has (formed k)
has_formed (column, bare l) = (l, [], (tt, refl, refl))
has_formed (column, limited) = has_mapped line.Limit (positive 16777216) (has_positive 16777216)
has_formed (column, one_name k) = has_mapped (λ m. k (at column m)) name has_name
has_formed (column, two_names k) = has_mapped (λ ab. k (at column ab.0) (at (column + length ab.0 + 1) ab.1)) (apart name (codes " ") name) (has_apart name (codes " ") name has_name has_name)
has_formed (column, name_value k) = has_with column k (value 64) (has_value 64)
has_formed (column, name_values k) = has_with column k (bracketed (value 63)) (has_bracketed (value 63))
has_formed (column, name_matcher k) = has_with column k matcher has_matcher
has_formed (column, name_order k) = has_with column k order has_order
has_formed (column, name_bounds k) = has_with column k ranges.bounds has_bounds
has_formed (column, name_func k) = has_with column k (func 8) (has_func 8)
has_formed (column, name_index k) = has_with column k ranges.short_number (has_natural 4294967295)
has_formed (column, name_index_value k) = has_with column (λ m iv. k m iv.0 iv.1) index_value (has_apart ranges.short_number (codes " ") (value 64) (has_natural 4294967295) (has_value 64))
has_formed (column, names_matcher k) = has_two_and column k matcher has_matcher
has_formed (column, names_order k) = has_two_and column k order has_order
has_formed (column, names_bounds k) = has_two_and column k ranges.bounds has_bounds
has_formed (column, names_func k) = has_two_and column k (func 8) (has_func 8)
has_formed (column, names_path k) = has_two_and column k path has_path
has_formed (column, composed) = has_mapped (composite_line column) (both name composite_part) (has_both name composite_part has_name (([], []), [], ([], [], refl, inr (tt, refl, refl), refl)))
has_formed (column, listened) =
    has_mapped (listen_line column) (apart name (codes " on ") (both name endings)) (has_apart name (codes " on ") (both name endings) has_name (has_both name endings has_name (([], false), [], inr (tt, refl, refl))))

table_ends : (n : ℕ) (rows : List (List ℕ × (ℕ × Form))) → AreApart rows → 0 < length rows → Reads n (words formed rows) no_more (table read_formed rows)
table_ends n [] h l = absurd (omega arith)
table_ends n (row ∷ rows) h l = table_reads n formed read_formed no_more nothing_follows has_formed (formed_reads n) row rows h

pub line_reads : (n : ℕ) → Reads n line_of_text no_more read_line
line_reads n = table_ends n line_words (apart_from line_words refl) (omega arith)

-- the verdict on all the bytes: the one line that they spell, or the column of the fault
pub line_verdict : (bs : List ℕ) → IsVerdict line_of_text bs (whole (read_line bs))
line_verdict bs = verdict_of line_of_text bs (read_line bs) (line_reads (length bs) bs (omega arith))

-- bytes spell one thing at most
one_thing : {A : Type 0} (L : Grammar A) (bs : List ℕ) (verdict : Verdict A) → IsVerdict L bs verdict → (a b : A) → L a bs → L b bs → a ≡ b
one_thing L bs (read c) v a b s t = v.alone a s ∙ sym (v.alone b t)
one_thing L bs (fault left) v a b s t = absurd (v.0 a s)

pub one_line : (bs : List ℕ) (a b : Line) → line_of_text a bs → line_of_text b bs → a ≡ b
one_line bs a b s t = one_thing line_of_text bs (whole (read_line bs)) (line_verdict bs) a b s t
