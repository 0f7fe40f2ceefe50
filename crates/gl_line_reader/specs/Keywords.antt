-- The words of lines, as the code has them, and the forms and lines that they stand for.
use Rattle.std.specs.Prelude.{◌+◌, ℕ, List, [], ◌∷◌, length, codes}
use Rattle.spec_value.specs.Tree.{Tree}
use Rattle.spec_lang.specs.Sorting.{Key}
use Rattle.gl_lines.specs.declared.named.Named.{Named}
use Rattle.gl_lines.specs.declared.line.Line.{Line}
use Rattle.gl_lines.specs.declared.line.Line.TheVariants as line
use Rattle.spec_syntax.specs.Reader.{found, Reader, table}
use Rattle.spec_lines.specs.Reader.{read_line}
use Rattle.spec_lines.specs.Line as grammar
use Rattle.spec_lines.specs.Line.{Form}
use Rattle.gl_line_reader.specs.declared.keyword.Keyword.{Keyword}
use Rattle.gl_line_reader.specs.declared.keyword.Keyword.TheVariants as keyword
use Rattle.gl_line_reader.specs.declared.keyword.Bare.{Bare}
use Rattle.gl_line_reader.specs.declared.keyword.Bare.TheVariants.{EndCsv, Writer, Section}
use Rattle.gl_line_reader.specs.declared.keyword.OneName.{OneName}
use Rattle.gl_line_reader.specs.declared.keyword.OneName.TheVariants.{Source, Csv, Clear, Begin, Commit, Rollback, Freeze, Thaw, Show}
use Rattle.gl_line_reader.specs.declared.keyword.TwoNames.{TwoNames}
use Rattle.gl_line_reader.specs.declared.keyword.TwoNames.TheVariants.{Transaction, Freezable, Proxy, Attach}
use Rattle.gl_line_reader.specs.declared.keyword.NameValue.{NameValue}
use Rattle.gl_line_reader.specs.declared.keyword.NameValue.TheVariants.{Row, Add}
use Rattle.gl_line_reader.specs.declared.keyword.NameIndex.{NameIndex}
use Rattle.gl_line_reader.specs.declared.keyword.NameIndex.TheVariants.{Remove, Detach}
use Rattle.gl_line_reader.specs.declared.keyword.NameIndexValue.{NameIndexValue}
use Rattle.gl_line_reader.specs.declared.keyword.NameIndexValue.TheVariants.{Insert, Set}
use Rattle.gl_line_reader.specs.declared.keyword.NamesOrder.{NamesOrder}
use Rattle.gl_line_reader.specs.declared.keyword.NamesOrder.TheVariants.{Sorted, Unique, Grouping}

abbrev pub bare_line : Bare → Line
bare_line EndCsv = line.EndCsv
bare_line Writer = line.Writer
bare_line Section = line.Section

abbrev pub about : OneName → Named → Line
about Source = line.Source
about Csv = line.Csv
about Clear = line.Clear
about Begin = line.Begin
about Commit = line.Commit
about Rollback = line.Rollback
about Freeze = line.Freeze
about Thaw = line.Thaw
about Show = line.Show

abbrev pub about_two : TwoNames → Named → Named → Line
about_two Transaction = line.Transaction
about_two Freezable = line.Freezable
about_two Proxy = line.Proxy
about_two Attach = line.Attach

abbrev pub with_value : NameValue → Named → Tree → Line
with_value Row = line.Row
with_value Add = line.Add

abbrev pub with_index : NameIndex → Named → ℕ → Line
with_index Remove = line.Remove
with_index Detach = line.Detach

abbrev pub with_value_at : NameIndexValue → Named → ℕ → Tree → Line
with_value_at Insert = line.Insert
with_value_at Set = line.Set

abbrev pub with_order : NamesOrder → Named → Named → List Key → Line
with_order Sorted = line.Sorted
with_order Unique = line.Unique
with_order Grouping = line.Grouping

abbrev pub form_of : Keyword → Form
form_of (keyword.Bare w) = grammar.bare (bare_line w)
form_of keyword.Limit = grammar.limited
form_of (keyword.OneName w) = grammar.one_name (about w)
form_of (keyword.TwoNames w) = grammar.two_names (about_two w)
form_of (keyword.NameValue w) = grammar.name_value (with_value w)
form_of keyword.AddAll = grammar.name_values line.AddAll
form_of keyword.Match = grammar.name_matcher line.Match
form_of keyword.Order = grammar.name_order line.Order
form_of keyword.Bounds = grammar.name_bounds line.Bounds
form_of keyword.Apply = grammar.name_func line.Apply
form_of (keyword.NameIndex w) = grammar.name_index (with_index w)
form_of (keyword.NameIndexValue w) = grammar.name_index_value (with_value_at w)
form_of keyword.Filter = grammar.names_matcher line.Filter
form_of (keyword.NamesOrder w) = grammar.names_order (with_order w)
form_of keyword.Range = grammar.names_bounds line.Range
form_of keyword.Function = grammar.names_func line.Function
form_of keyword.Collection = grammar.names_path line.Collection
form_of keyword.Composite = grammar.composed
form_of keyword.Listen = grammar.listened

abbrev pub keywords : List (List ℕ × Keyword)
keywords =
    (codes "limit ", keyword.Limit)
    ∷ (codes "source ", keyword.OneName Source)
    ∷ (codes "row ", keyword.NameValue Row)
    ∷ (codes "csv ", keyword.OneName Csv)
    ∷ (codes "end csv", keyword.Bare EndCsv)
    ∷ (codes "filter ", keyword.Filter)
    ∷ (codes "sorted ", keyword.NamesOrder Sorted)
    ∷ (codes "unique ", keyword.NamesOrder Unique)
    ∷ (codes "grouping ", keyword.NamesOrder Grouping)
    ∷ (codes "range ", keyword.Range)
    ∷ (codes "function ", keyword.Function)
    ∷ (codes "collection ", keyword.Collection)
    ∷ (codes "composite ", keyword.Composite)
    ∷ (codes "transaction ", keyword.TwoNames Transaction)
    ∷ (codes "freezable ", keyword.TwoNames Freezable)
    ∷ (codes "proxy ", keyword.TwoNames Proxy)
    ∷ (codes "listen ", keyword.Listen)
    ∷ (codes "writer", keyword.Bare Writer)
    ∷ (codes "section", keyword.Bare Section)
    ∷ (codes "add ", keyword.NameValue Add)
    ∷ (codes "addall ", keyword.AddAll)
    ∷ (codes "insert ", keyword.NameIndexValue Insert)
    ∷ (codes "set ", keyword.NameIndexValue Set)
    ∷ (codes "remove ", keyword.NameIndex Remove)
    ∷ (codes "clear ", keyword.OneName Clear)
    ∷ (codes "match ", keyword.Match)
    ∷ (codes "order ", keyword.Order)
    ∷ (codes "bounds ", keyword.Bounds)
    ∷ (codes "apply ", keyword.Apply)
    ∷ (codes "attach ", keyword.TwoNames Attach)
    ∷ (codes "detach ", keyword.NameIndex Detach)
    ∷ (codes "begin ", keyword.OneName Begin)
    ∷ (codes "commit ", keyword.OneName Commit)
    ∷ (codes "rollback ", keyword.OneName Rollback)
    ∷ (codes "freeze ", keyword.OneName Freeze)
    ∷ (codes "thaw ", keyword.OneName Thaw)
    ∷ (codes "show ", keyword.OneName Show)
    ∷ []

-- a table in which each word has the column after it
abbrev pub in_columns : {K : Type 0} → List (List ℕ × K) → List (List ℕ × (ℕ × K))
in_columns [] = []
in_columns (row ∷ rows) = (row.0, (length row.0 + 1, row.1)) ∷ in_columns rows

abbrev pub form_in : ℕ × Keyword → ℕ × Form
form_in ck = (ck.0, form_of ck.1)

-- the word of a line, and a whole line, as names that the proofs of code leave closed
unfoldable pub read_keyword : Reader Keyword
read_keyword bs = table found keywords bs

unfoldable pub read_any_line : Reader Line
read_any_line bs = read_line bs
