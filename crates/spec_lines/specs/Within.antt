-- Lines within the limits of the language.
use Rattle.std.specs.Prelude.{◌<◌, ◌≤◌, ℕ, List, IsTrue}
use Rattle.std.specs.List.{AllByRecursion}
use Rattle.spec_value.specs.Name.{is_name}
use Rattle.spec_value.specs.Tree.{Tree, nesting, trees, trees_nesting}
use Rattle.spec_lang.specs.Matcher as meant
use Rattle.spec_syntax.specs.Proper.{IsProper, AreProper, IsPath, IsOrder, IsBounds, IsFunc, IsMatcher, matcher_nesting}
use Rattle.gl_lines.specs.declared.named.Named.{Named}
use Rattle.gl_lines.specs.declared.line.Line.{Line}
use Rattle.gl_lines.specs.declared.line.Line.TheVariants as line

abbrev pub IsNamed : Named → Type 0
IsNamed n = IsTrue (is_name n.name)

-- a value of a line nests at most 64 deep
abbrev pub IsLiteral : Tree → Type 0
IsLiteral value = IsProper value × (nesting value ≤ 64)

-- so does a list of them
abbrev pub AreLiterals : List Tree → Type 0
AreLiterals values = AreProper (trees values) × (trees_nesting (trees values) ≤ 63)

-- a matcher of a line nests at most 8 deep
abbrev pub IsRule : meant.Matcher → Type 0
IsRule matcher = IsMatcher matcher × (matcher_nesting matcher ≤ 8)

-- an index of a line has 32 bits
abbrev pub IsShort : ℕ → Type 0
IsShort index = index ≤ 4294967295

-- a line whose names are names, and whose parts are within the limits
abbrev pub IsWithin : Line → Type 0
IsWithin (line.Limit limit) = (0 < limit) × (limit ≤ 16777216)
IsWithin (line.Source name) = IsNamed name
IsWithin (line.Row list value) = IsNamed list × IsLiteral value
IsWithin (line.Csv list) = IsNamed list
IsWithin line.EndCsv = Unit {0}
IsWithin (line.Filter name input matcher) = IsNamed name × IsNamed input × IsRule matcher
IsWithin (line.Sorted name input order) = IsNamed name × IsNamed input × IsOrder order
IsWithin (line.Unique name input order) = IsNamed name × IsNamed input × IsOrder order
IsWithin (line.Grouping name input order) = IsNamed name × IsNamed input × IsOrder order
IsWithin (line.Range name input bounds) = IsNamed name × IsNamed input × IsBounds bounds
IsWithin (line.Function name input func) = IsNamed name × IsNamed input × IsFunc 8 func
IsWithin (line.Collection name input path) = IsNamed name × IsNamed input × IsPath path
IsWithin (line.Composite name members may) =
    IsNamed name × AllByRecursion IsNamed members × AllByRecursion IsNamed may
IsWithin (line.Transaction name input) = IsNamed name × IsNamed input
IsWithin (line.Freezable name input) = IsNamed name × IsNamed input
IsWithin (line.Proxy name input) = IsNamed name × IsNamed input
IsWithin (line.Listen name list after echo) =
    IsNamed name × IsNamed list × AllByRecursion IsNamed after
IsWithin line.Writer = Unit {0}
IsWithin line.Section = Unit {0}
IsWithin (line.Add list value) = IsNamed list × IsLiteral value
IsWithin (line.AddAll list values) = IsNamed list × AreLiterals values
IsWithin (line.Insert list index value) = IsNamed list × IsShort index × IsLiteral value
IsWithin (line.Set list index value) = IsNamed list × IsShort index × IsLiteral value
IsWithin (line.Remove list index) = IsNamed list × IsShort index
IsWithin (line.Clear list) = IsNamed list
IsWithin (line.Match list matcher) = IsNamed list × IsRule matcher
IsWithin (line.Order list order) = IsNamed list × IsOrder order
IsWithin (line.Bounds list bounds) = IsNamed list × IsBounds bounds
IsWithin (line.Apply list func) = IsNamed list × IsFunc 8 func
IsWithin (line.Attach list member) = IsNamed list × IsNamed member
IsWithin (line.Detach list index) = IsNamed list × IsShort index
IsWithin (line.Begin list) = IsNamed list
IsWithin (line.Commit list) = IsNamed list
IsWithin (line.Rollback list) = IsNamed list
IsWithin (line.Freeze list) = IsNamed list
IsWithin (line.Thaw list) = IsNamed list
IsWithin (line.Show list) = IsNamed list
