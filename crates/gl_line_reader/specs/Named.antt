-- Readers of names in their columns.
use Rattle.std.specs.Prelude.{◌+◌, ℕ, List, [], ◌∷◌, ◌++◌, length, codes}
use Rattle.spec_syntax.specs.Reader.{Reader, made, on, made_of, after_word, close, repeated}
use Rattle.spec_syntax.specs.Name.{read_name}
use Rattle.spec_syntax.specs.ValueReader.{is}
use Rattle.spec_lines.specs.Line.{at, in_row}
use Rattle.gl_lines.specs.declared.named.Named.{Named}

abbrev pub read_named : ℕ → Reader Named
read_named column = made_of (at column) read_name

-- with the space after it
abbrev pub read_spaced : ℕ → Reader Named
read_spaced column = close (read_named column) (codes " ")

-- two names, each with the space after it
abbrev pub read_two_spaced : ℕ → Reader (Named × Named)
read_two_spaced column bs =
    on (read_spaced column bs)
    (λ first rest.
    made (λ second. (first, second)) (read_spaced (column + length first.name + 1) rest))

-- the names with those after them, each after its separator, the first of which stands in this column
abbrev pub read_more : ℕ → List Named → ℕ → ℕ → Reader (List Named)
read_more separator names column most bs =
    made (λ more. names ++ in_row (column + 1) more)
    (repeated most (is separator) (after_word (separator ∷ []) read_name) bs)
