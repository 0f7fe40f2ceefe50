-- The grammar of the lines of a plan's text. Names stand in a line with the column of their first byte.
use Rattle.std.specs.Prelude.{◌+◌, ℕ, Bool, true, false, List, [], ◌∷◌, length, codes}
use Rattle.spec_value.specs.Tree.{Tree}
use Rattle.spec_syntax.specs.Grammar.{Grammar, empty, word, both, mapped, optional, after, apart, many, listed, words}
use Rattle.spec_lang.specs.declared.Bounds.{Bounds}
use Rattle.spec_lang.specs.Sorting.{Key}
use Rattle.spec_lang.specs.Func.{Func}
use Rattle.spec_lang.specs.Matcher as meant
use Rattle.spec_syntax.specs.Number.{positive}
use Rattle.spec_syntax.specs.Value.{value, bracketed}
use Rattle.spec_syntax.specs.Name.{name}
use Rattle.spec_syntax.specs.Path.{path, order}
use Rattle.spec_syntax.specs.Bounds as ranges
use Rattle.spec_syntax.specs.Func.{func}
use Rattle.spec_syntax.specs.Matcher.{matcher}
use Rattle.gl_lines.specs.declared.named.Named.{Named}
use Rattle.gl_lines.specs.declared.line.Line.{Line}
use Rattle.gl_lines.specs.declared.line.Line.TheVariants as line

-- a name in its column
abbrev pub at : ℕ → List ℕ → Named
at column n = record { name = n; column = column }

-- names with one byte between every two
abbrev pub in_row : ℕ → List (List ℕ) → List Named
in_row column [] = []
in_row column (n ∷ ns) = at column n ∷ in_row (column + length n + 1) ns

-- the column after names with one byte ahead of each
abbrev pub past : ℕ → List (List ℕ) → ℕ
past column [] = column
past column (n ∷ ns) = past (column + 1 + length n) ns

-- what stands after the word of a line, by what the line is made of
pub data Form : Type 0 where
  bare : Line → Form
  limited : Form
  one_name : (Named → Line) → Form
  two_names : (Named → Named → Line) → Form
  name_value : (Named → Tree → Line) → Form
  name_values : (Named → List Tree → Line) → Form
  name_matcher : (Named → meant.Matcher → Line) → Form
  name_order : (Named → List Key → Line) → Form
  name_bounds : (Named → Bounds → Line) → Form
  name_func : (Named → Func → Line) → Form
  name_index : (Named → ℕ → Line) → Form
  name_index_value : (Named → ℕ → Tree → Line) → Form
  names_matcher : (Named → Named → meant.Matcher → Line) → Form
  names_order : (Named → Named → List Key → Line) → Form
  names_bounds : (Named → Named → Bounds → Line) → Form
  names_func : (Named → Named → Func → Line) → Form
  names_path : (Named → Named → List ℕ → Line) → Form
  composed : Form
  listened : Form

-- a name, a space and more
abbrev pub with_name : {A : Type 0} → ℕ → (Named → A → Line) → Grammar A → Grammar Line
with_name column k S = mapped (λ ab. k (at column ab.0) ab.1) (apart name (codes " ") S)

-- two names, each with a space after it, and more
abbrev pub with_names : {A : Type 0} → ℕ → (Named → Named → A → Line) → Grammar A → Grammar Line
with_names column k S =
    mapped (λ abc. k (at column abc.0) (at (column + length abc.0 + 1) abc.1.0) abc.1.1)
    (apart name (codes " ") (apart name (codes " ") S))

-- an index and a value
abbrev pub index_value : Grammar (ℕ × Tree)
index_value = apart ranges.short_number (codes " ") (value 64)

-- {" " MEMBER}
abbrev pub members : Grammar (List (List ℕ))
members = many (after (codes " ") name)

-- " may" " " LIST {" " LIST}
abbrev pub may_part : Grammar (List (List ℕ))
may_part = after (codes " may ") (listed name (codes " "))

abbrev pub composite_part : Grammar (List (List ℕ) × List (List ℕ))
composite_part = both members (optional [] may_part)

abbrev pub composite_line : ℕ → List ℕ × (List (List ℕ) × List (List ℕ)) → Line
composite_line column c =
    line.Composite (at column c.0) (in_row (column + length c.0 + 1) c.1.0)
    (in_row (past (column + length c.0) c.1.0 + 5) c.1.1)

-- what may stand after the list of a listener
pub data Ending : Type 0 where
  after_names : Ending
  only_echo : Ending

abbrev pub echo : Grammar Bool
echo = mapped (λ _. true) (word (codes " echo"))

abbrev pub ending : Ending → Grammar (List (List ℕ) × Bool)
ending after_names = both (listed name (codes ",")) (optional false echo)
ending only_echo = mapped (λ _. ([], true)) empty

abbrev pub ending_words : List (List ℕ × Ending)
ending_words = (codes " after ", after_names) ∷ (codes " echo", only_echo) ∷ []

-- [" after " NAME {"," NAME}] [" echo"]
abbrev pub endings : Grammar (List (List ℕ) × Bool)
endings = optional ([], false) (words ending ending_words)

abbrev pub listen_line : ℕ → List ℕ × (List ℕ × (List (List ℕ) × Bool)) → Line
listen_line column c =
    line.Listen (at column c.0) (at (column + length c.0 + 4) c.1.0)
    (in_row (column + length c.0 + 4 + length c.1.0 + 7) c.1.1.0) c.1.1.1

-- the lines of a form, after their word, which ends ahead of this column
abbrev pub formed : ℕ × Form → Grammar Line
formed (column, bare l) = mapped (λ _. l) empty
formed (column, limited) = mapped line.Limit (positive 16777216)
formed (column, one_name k) = mapped (λ n. k (at column n)) name
formed (column, two_names k) =
    mapped (λ ab. k (at column ab.0) (at (column + length ab.0 + 1) ab.1))
    (apart name (codes " ") name)
formed (column, name_value k) = with_name column k (value 64)
formed (column, name_values k) = with_name column k (bracketed (value 63))
formed (column, name_matcher k) = with_name column k matcher
formed (column, name_order k) = with_name column k order
formed (column, name_bounds k) = with_name column k ranges.bounds
formed (column, name_func k) = with_name column k (func 8)
formed (column, name_index k) = with_name column k ranges.short_number
formed (column, name_index_value k) = with_name column (λ n iv. k n iv.0 iv.1) index_value
formed (column, names_matcher k) = with_names column k matcher
formed (column, names_order k) = with_names column k order
formed (column, names_bounds k) = with_names column k ranges.bounds
formed (column, names_func k) = with_names column k (func 8)
formed (column, names_path k) = with_names column k path
formed (column, composed) = mapped (composite_line column) (both name composite_part)
formed (column, listened) =
    mapped (listen_line column) (apart name (codes " on ") (both name endings))

-- a row of the table: what stands after the word begins in the column after it
abbrev pub row : List ℕ → Form → List ℕ × (ℕ × Form)
row w form = (w, (length w + 1, form))

abbrev pub line_words : List (List ℕ × (ℕ × Form))
line_words =
    row (codes "limit ") limited
    ∷ row (codes "source ") (one_name line.Source)
    ∷ row (codes "row ") (name_value line.Row)
    ∷ row (codes "csv ") (one_name line.Csv)
    ∷ row (codes "end csv") (bare line.EndCsv)
    ∷ row (codes "filter ") (names_matcher line.Filter)
    ∷ row (codes "sorted ") (names_order line.Sorted)
    ∷ row (codes "unique ") (names_order line.Unique)
    ∷ row (codes "grouping ") (names_order line.Grouping)
    ∷ row (codes "range ") (names_bounds line.Range)
    ∷ row (codes "function ") (names_func line.Function)
    ∷ row (codes "collection ") (names_path line.Collection)
    ∷ row (codes "composite ") composed
    ∷ row (codes "transaction ") (two_names line.Transaction)
    ∷ row (codes "freezable ") (two_names line.Freezable)
    ∷ row (codes "proxy ") (two_names line.Proxy)
    ∷ row (codes "listen ") listened
    ∷ row (codes "writer") (bare line.Writer)
    ∷ row (codes "section") (bare line.Section)
    ∷ row (codes "add ") (name_value line.Add)
    ∷ row (codes "addall ") (name_values line.AddAll)
    ∷ row (codes "insert ") (name_index_value line.Insert)
    ∷ row (codes "set ") (name_index_value line.Set)
    ∷ row (codes "remove ") (name_index line.Remove)
    ∷ row (codes "clear ") (one_name line.Clear)
    ∷ row (codes "match ") (name_matcher line.Match)
    ∷ row (codes "order ") (name_order line.Order)
    ∷ row (codes "bounds ") (name_bounds line.Bounds)
    ∷ row (codes "apply ") (name_func line.Apply)
    ∷ row (codes "attach ") (two_names line.Attach)
    ∷ row (codes "detach ") (name_index line.Detach)
    ∷ row (codes "begin ") (one_name line.Begin)
    ∷ row (codes "commit ") (one_name line.Commit)
    ∷ row (codes "rollback ") (one_name line.Rollback)
    ∷ row (codes "freeze ") (one_name line.Freeze)
    ∷ row (codes "thaw ") (one_name line.Thaw)
    ∷ row (codes "show ") (one_name line.Show)
    ∷ []

abbrev pub line_of_text : Grammar Line
line_of_text = words formed line_words
