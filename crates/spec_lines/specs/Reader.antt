-- Readers of lines on lists of bytes.
use Rattle.std.specs.Prelude.{◌+◌, ℕ, zero, suc, Bool, true, false, List, [], ◌∷◌, length, if◌then◌else◌, codes}
use Rattle.spec_value.specs.Tree.{Tree}
use Rattle.spec_syntax.specs.Reader.{Step, found, stopped, Reader, first_is, made, nothing, read_word, made_of, seq, after_word, sep, all_of, maybe, nearer, table}
use Rattle.spec_syntax.specs.ValueReader.{is, read_positive, read_nested, read_bracketed}
use Rattle.spec_syntax.specs.Name.{read_name}
use Rattle.spec_syntax.specs.LanguageReader.{read_path, read_order, read_short, read_bounds, read_func, read_matcher}
use Rattle.gl_lines.specs.declared.named.Named.{Named}
use Rattle.gl_lines.specs.declared.line.Line.{Line}
use Rattle.gl_lines.specs.declared.line.Line.TheVariants as line
use Rattle.spec_lines.specs.Line.{at, Form, bare, limited, one_name, two_names, name_value, name_values, name_matcher, name_order, name_bounds, name_func, name_index, name_index_value, names_matcher, names_order, names_bounds, names_func, names_path, composed, listened, composite_line, Ending, after_names, only_echo, ending_words, listen_line, line_words}

abbrev pub read_with_name : {A : Type 0} → ℕ → (Named → A → Line) → Reader A → Reader Line
read_with_name column k r = made_of (λ ab. k (at column ab.0) ab.1) (sep read_name (codes " ") r)

abbrev pub read_with_names : {A : Type 0} → ℕ → (Named → Named → A → Line) → Reader A → Reader Line
read_with_names column k r =
    made_of (λ abc. k (at column abc.0) (at (column + length abc.0 + 1) abc.1.0) abc.1.1)
    (sep read_name (codes " ") (sep read_name (codes " ") r))

abbrev pub read_index_value : Reader (ℕ × Tree)
read_index_value = sep read_short (codes " ") (read_nested 64)

abbrev pub read_names : ℕ → List ℕ → Reader (List (List ℕ))
read_names c w = made_of (λ b. b.0 ∷ b.1) (seq read_name (all_of (is c) (after_word w read_name)))

abbrev pub read_may : Reader (List (List ℕ))
read_may = after_word (codes " may ") (read_names 32 (codes " "))

-- one member more, or else the lists after ` may `
abbrev pub member_or_may : Step (List ℕ) → Step (List (List ℕ))
    → Reader (List (List ℕ) × List (List ℕ)) → Step (List (List ℕ) × List (List ℕ))
member_or_may (found m rest) may next = made (λ ab. (m ∷ ab.0, ab.1)) (next rest)
member_or_may (stopped left) may next = made (λ lists. ([], lists)) (nearer may (stopped left))

-- the members, at most so many, and the lists after ` may `
abbrev pub read_composite : ℕ → Reader (List (List ℕ) × List (List ℕ))
read_composite zero bs = found ([], []) bs
read_composite (suc n) bs =
    if first_is (is 32) bs
    then member_or_may (after_word (codes " ") read_name bs) (read_may bs) (read_composite n)
    else found ([], []) bs

abbrev pub read_composite_part : Reader (List (List ℕ) × List (List ℕ))
read_composite_part bs = read_composite (length bs) bs

abbrev pub read_echo : Reader Bool
read_echo = made_of (λ _. true) (read_word (codes " echo"))

abbrev pub read_ending : Ending → Reader (List (List ℕ) × Bool)
read_ending after_names = seq (read_names 44 (codes ",")) (maybe false (is 32) read_echo)
read_ending only_echo = made_of (λ _. ([], true)) nothing

abbrev pub read_endings : Reader (List (List ℕ) × Bool)
read_endings = maybe ([], false) (is 32) (table read_ending ending_words)

abbrev pub read_formed : ℕ × Form → Reader Line
read_formed (column, bare l) = made_of (λ _. l) nothing
read_formed (column, limited) = made_of line.Limit (read_positive 16777216)
read_formed (column, one_name k) = made_of (λ n. k (at column n)) read_name
read_formed (column, two_names k) =
    made_of (λ ab. k (at column ab.0) (at (column + length ab.0 + 1) ab.1))
    (sep read_name (codes " ") read_name)
read_formed (column, name_value k) = read_with_name column k (read_nested 64)
read_formed (column, name_values k) = read_with_name column k (read_bracketed (read_nested 63))
read_formed (column, name_matcher k) = read_with_name column k read_matcher
read_formed (column, name_order k) = read_with_name column k read_order
read_formed (column, name_bounds k) = read_with_name column k read_bounds
read_formed (column, name_func k) = read_with_name column k (read_func 8)
read_formed (column, name_index k) = read_with_name column k read_short
read_formed (column, name_index_value k) =
    read_with_name column (λ n iv. k n iv.0 iv.1) read_index_value
read_formed (column, names_matcher k) = read_with_names column k read_matcher
read_formed (column, names_order k) = read_with_names column k read_order
read_formed (column, names_bounds k) = read_with_names column k read_bounds
read_formed (column, names_func k) = read_with_names column k (read_func 8)
read_formed (column, names_path k) = read_with_names column k read_path
read_formed (column, composed) = made_of (composite_line column) (seq read_name read_composite_part)
read_formed (column, listened) =
    made_of (listen_line column) (sep read_name (codes " on ") (seq read_name read_endings))

abbrev pub read_line : Reader Line
read_line = table read_formed line_words
