-- The word of a line, what it calls for, and what the reader of lines says of all the bytes.
use Rattle.std.proofs.Common.{◌≡◌, ℕ, ◌+◌, ◌-◌, ◌<◌, ◌≤◌, List, [], ◌∷◌, ◌++◌, length, refl, sym, ap, ◌∙◌, subst, arith}
use Rattle.spec_syntax.specs.Language.{Spell, Leaves}
use Rattle.spec_syntax.specs.Reader.{Step, found, stopped, Reader, on, read_word, nearer, whole, table}
use Rattle.spec_syntax.proofs.Missed.{missed_most}
use Rattle.spec_syntax.proofs.ReadSteps.{no_more, Finds, Stops, IsStep}
use Rattle.spec_syntax.proofs.Sequences.{rest_le}
use Rattle.spec_syntax.proofs.Joints.{after_on, later_stops}
use Rattle.spec_syntax.proofs.Wholes.{IsVerdict}
use Rattle.spec_lines.specs.Line.{formed, line_of_text}
use Rattle.spec_lines.specs.Reader.{read_formed, read_line}
use Rattle.spec_lines.proofs.Apart.{apart_from}
use Rattle.spec_lines.proofs.Lines.{formed_reads, line_reads, line_verdict}
use Rattle.gl_lines.specs.declared.line.Line.{Line}
use Rattle.gl_line_reader.specs.declared.keyword.Keyword.{Keyword}
use Rattle.gl_line_reader.specs.Keywords.{form_of, keywords, in_columns, form_in, read_keyword, read_any_line}
use Rattle.gl_line_reader.proofs.Tables.{table_on, reads_short}
use Rattle.gl_line_reader.proofs.Joins.{word_length}

-- what a word calls for, and the column after it
abbrev in_column : {K : Type 0} → List ℕ → K → Reader (ℕ × K)
in_column bs k rest = found (length bs - length rest + 1, k) rest

columns_are : {K : Type 0} (rows : List (List ℕ × K)) (bs : List ℕ) → table found (in_columns rows) bs ≡ on (table found rows bs) (in_column bs)
columns_are [] bs = refl
columns_are {K = K} (row ∷ rows) bs = by_word (read_word row.0 bs) refl (columns_are rows bs)
  where
    by_rest : (least : ℕ) (st : Step K) → nearer (stopped least) (on st (in_column bs)) ≡ on (nearer (stopped least) st) (in_column bs)
    by_rest least (found k rest) = refl
    by_rest least (stopped left) = refl

    word_first : (rest : List ℕ) → read_word row.0 bs ≡ found tt rest → length row.0 + 1 ≡ length bs - length rest + 1
    word_first rest h = omega (arith, word_length row.0 bs rest h)

    by_word : (st : Step (Unit {0})) → read_word row.0 bs ≡ st → table found (in_columns rows) bs ≡ on (table found rows bs) (in_column bs) → table found (in_columns (row ∷ rows)) bs ≡ on (table found (row ∷ rows) bs) (in_column bs)
    by_word (found u rest) h ahead =
        ap (λ st. nearer st (table found (in_columns rows) bs)) (after_on row.0 (found (length row.0 + 1, row.1)) bs rest h)
        ∙ ap (λ n. found (n, row.1) rest) (word_first rest h)
        ∙ sym (ap (λ st. on (nearer st (table found rows bs)) (in_column bs)) (after_on row.0 (found row.1) bs rest h))
    by_word (stopped least) h ahead =
        ap (λ st. nearer st (table found (in_columns rows) bs)) (later_stops row.0 (found (length row.0 + 1, row.1)) bs least h)
        ∙ ap (nearer (stopped least)) ahead
        ∙ by_rest least (table found rows bs)
        ∙ sym (ap (λ st. on (nearer st (table found rows bs)) (in_column bs)) (later_stops row.0 (found row.1) bs least h))

-- the line after a word
abbrev after_keyword : List ℕ → Keyword → Reader Line
after_keyword bs k rest = read_formed (length bs - length rest + 1, form_of k) rest

line_is : (bs : List ℕ) → read_line bs ≡ on (table found keywords bs) (after_keyword bs)
line_is bs =
    table_on form_in read_formed (in_columns keywords) bs (apart_from (in_columns keywords) refl) (λ k. reads_short (formed k) no_more (read_formed k) (λ n. formed_reads n k))
    ∙ ap (λ st. on st (λ k rest. read_formed (form_in k) rest)) (columns_are keywords bs)
    ∙ by_keyword (table found keywords bs)
  where
    by_keyword : (st : Step Keyword) → on (on st (in_column bs)) (λ k rest. read_formed (form_in k) rest) ≡ on st (after_keyword bs)
    by_keyword (found k rest) = refl
    by_keyword (stopped left) = refl

pub line_on : (bs rest : List ℕ) (k : Keyword) (column : ℕ) → read_keyword bs ≡ found k rest → column ≡ length bs - length rest + 1 → read_any_line bs ≡ read_formed (column, form_of k) rest
unfolding read_keyword read_any_line
line_on bs rest k column h e = line_is bs ∙ ap (λ st. on st (after_keyword bs)) h ∙ ap (λ n. read_formed (n, form_of k) rest) (sym e)

pub line_stops : (bs : List ℕ) (left : ℕ) → read_keyword bs ≡ stopped left → read_any_line bs ≡ stopped left
unfolding read_keyword read_any_line
line_stops bs left h = line_is bs ∙ ap (λ st. on st (after_keyword bs)) h

-- the verdict on all the bytes
line_step : (bs : List ℕ) (st : Step Line) → read_any_line bs ≡ st → IsStep line_of_text no_more bs st
unfolding read_any_line
line_step bs st h = subst (λ s. IsStep line_of_text no_more bs s) h (line_reads (length bs) bs (omega arith))

verdict_at : (bs : List ℕ) (st : Step Line) → read_any_line bs ≡ st → IsVerdict line_of_text bs (whole st)
unfolding read_any_line
verdict_at bs st h = subst (λ s. IsVerdict line_of_text bs (whole s)) h (line_verdict bs)

pub spelled_all : (bs : List ℕ) (l : Line) (rest : List ℕ) → read_any_line bs ≡ found l rest → length rest ≡ 0 → Spell line_of_text bs l
spelled_all bs l [] h e = verdict_at bs (found l []) h
spelled_all bs l (c ∷ rest) h e = absurd (omega arith)

pub spelled_prefix : (bs : List ℕ) (l : Line) (rest : List ℕ) (column : ℕ) → read_any_line bs ≡ found l rest → 0 < length rest → column + length rest ≡ length bs + 1 → Leaves line_of_text bs column
spelled_prefix bs l [] column h some e = absurd (omega arith)
spelled_prefix bs l (c ∷ rest) column h some e = let v = verdict_at bs (found l (c ∷ rest)) h in record { none = v.0; at = v.1 column (omega arith) }

pub spelled_none : (bs : List ℕ) (left column : ℕ) → read_any_line bs ≡ stopped left → column + left ≡ length bs + 1 → Leaves line_of_text bs column
spelled_none bs left column h e = let v = verdict_at bs (stopped left) h in record { none = v.0; at = v.1 column e }

left_of : (bs : List ℕ) (left : ℕ) → Stops line_of_text no_more bs left → left ≤ length bs
left_of bs left s = omega (arith, s.near, missed_most (s.text ++ s.tail) bs)

pub left_le : (bs : List ℕ) (left : ℕ) → read_any_line bs ≡ stopped left → left ≤ length bs
left_le bs left h = left_of bs left (line_step bs (stopped left) h)

prefix_of : (bs : List ℕ) (l : Line) (rest : List ℕ) → Finds line_of_text no_more bs l rest → length rest ≤ length bs
prefix_of bs l rest f = rest_le bs f.prefix rest f.are

pub rest_of : (bs : List ℕ) (l : Line) (rest : List ℕ) → read_any_line bs ≡ found l rest → length rest ≤ length bs
rest_of bs l rest h = prefix_of bs l rest (line_step bs (found l rest) h)
