-- The tables of words, as the code has them.
use Rattle.std.proofs.Common.{◌≡◌, ℕ, List, refl, ap, ◌∙◌}
use Rattle.spec_syntax.specs.Reader.{found, stopped, on, table}
use Rattle.spec_syntax.proofs.ReadSteps.{no_more}
use Rattle.spec_syntax.specs.Bounds.{two_numbers}
use Rattle.spec_syntax.specs.LanguageReader.{read_two_numbers, read_bounds}
use Rattle.spec_syntax.proofs.Paths.{two_reads}
use Rattle.spec_lines.proofs.Apart.{apart_from}
use Rattle.spec_lines.proofs.Composites.{ends, nothing_follows}
use Rattle.gl_line_reader.specs.declared.bounds.End.{End}
use Rattle.gl_line_reader.specs.Ends.{bounds_of, end_words}
use Rattle.gl_line_reader.proofs.Tables.{IsShort, table_on, reads_short}
use Rattle.spec_lang.specs.declared.Bounds.{Bounds}
use Rattle.spec_syntax.specs.Number.{is_digit}

two_short : (k : ℕ → ℕ → Bounds) → IsShort (read_two_numbers k)
two_short k = reads_short (two_numbers k) no_more (read_two_numbers k) (λ n. two_reads n no_more nothing_follows (ends is_digit) k)

bounds_is : (bs : List ℕ) → read_bounds bs ≡ on (table found end_words bs) (λ e rest. read_two_numbers (bounds_of e) rest)
bounds_is bs = table_on bounds_of read_two_numbers end_words bs (apart_from end_words refl) two_short

pub bounds_stop : (bs : List ℕ) (left : ℕ) → table found end_words bs ≡ stopped left → read_bounds bs ≡ stopped left
bounds_stop bs left h = bounds_is bs ∙ ap (λ st. on st (λ e rest. read_two_numbers (bounds_of e) rest)) h

pub bounds_on : (bs r1 : List ℕ) (e : End) → table found end_words bs ≡ found e r1 → read_bounds bs ≡ read_two_numbers (bounds_of e) r1
bounds_on bs r1 e h = bounds_is bs ∙ ap (λ st. on st (λ e rest. read_two_numbers (bounds_of e) rest)) h
