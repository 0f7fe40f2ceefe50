-- Lines that are the same but for the columns of their names, and what the one spelling of a line is to be.
use Rattle.std.specs.Prelude.{◌≡◌, ℕ, List, [], ◌∷◌}
use Rattle.spec_syntax.specs.Language.{Spell}
use Rattle.spec_lines.specs.Line.{at, line_of_text}
use Rattle.spec_lines.specs.Spelled.{spelled_line}
use Rattle.gl_lines.specs.declared.named.Named.{Named}
use Rattle.gl_lines.specs.declared.line.Line.{Line}
use Rattle.gl_lines.specs.declared.line.Line.TheVariants as line

-- a name in column 0
abbrev pub moved : Named → Named
moved n = at 0 n.name

abbrev pub all_moved : List Named → List Named
all_moved [] = []
all_moved (n ∷ ns) = moved n ∷ all_moved ns

-- the line with each name in column 0
abbrev pub unplaced : Line → Line
unplaced (line.Limit limit) = line.Limit limit
unplaced (line.Source name) = line.Source (moved name)
unplaced (line.Row list value) = line.Row (moved list) value
unplaced (line.Csv list) = line.Csv (moved list)
unplaced line.EndCsv = line.EndCsv
unplaced (line.Filter name input matcher) = line.Filter (moved name) (moved input) matcher
unplaced (line.Sorted name input order) = line.Sorted (moved name) (moved input) order
unplaced (line.Unique name input order) = line.Unique (moved name) (moved input) order
unplaced (line.Grouping name input order) = line.Grouping (moved name) (moved input) order
unplaced (line.Range name input bounds) = line.Range (moved name) (moved input) bounds
unplaced (line.Function name input func) = line.Function (moved name) (moved input) func
unplaced (line.Collection name input kids) = line.Collection (moved name) (moved input) kids
unplaced (line.Composite name members may) =
    line.Composite (moved name) (all_moved members) (all_moved may)
unplaced (line.Transaction name input) = line.Transaction (moved name) (moved input)
unplaced (line.Freezable name input) = line.Freezable (moved name) (moved input)
unplaced (line.Proxy name input) = line.Proxy (moved name) (moved input)
unplaced (line.Listen name list after echo) =
    line.Listen (moved name) (moved list) (all_moved after) echo
unplaced line.Writer = line.Writer
unplaced line.Section = line.Section
unplaced (line.Add list value) = line.Add (moved list) value
unplaced (line.AddAll list values) = line.AddAll (moved list) values
unplaced (line.Insert list index value) = line.Insert (moved list) index value
unplaced (line.Set list index value) = line.Set (moved list) index value
unplaced (line.Remove list index) = line.Remove (moved list) index
unplaced (line.Clear list) = line.Clear (moved list)
unplaced (line.Match list matcher) = line.Match (moved list) matcher
unplaced (line.Order list order) = line.Order (moved list) order
unplaced (line.Bounds list bounds) = line.Bounds (moved list) bounds
unplaced (line.Apply list func) = line.Apply (moved list) func
unplaced (line.Attach list member) = line.Attach (moved list) (moved member)
unplaced (line.Detach list index) = line.Detach (moved list) index
unplaced (line.Begin list) = line.Begin (moved list)
unplaced (line.Commit list) = line.Commit (moved list)
unplaced (line.Rollback list) = line.Rollback (moved list)
unplaced (line.Freeze list) = line.Freeze (moved list)
unplaced (line.Thaw list) = line.Thaw (moved list)
unplaced (line.Show list) = line.Show (moved list)

-- some bytes spell the line
abbrev pub IsLine : Line → Type 0
IsLine l = (bs : List ℕ) × line_of_text l bs

-- the same but for columns
abbrev pub AreSame : Line → Line → Type 0
AreSame l k = unplaced l ≡ unplaced k

-- Where any bytes spell the line, but for the columns that it has, its one spelling spells what they spell, and nothing else.
abbrev pub ReadsBack : Line → Type 0
ReadsBack l = (k : Line) → IsLine k → AreSame l k → Spell line_of_text (spelled_line l) k

-- The one spelling of a line spells the same line, in some columns, and nothing else.
abbrev pub SpellsSame : Line → Type 0
SpellsSame l = (k : Line) × AreSame k l × Spell line_of_text (spelled_line l) k
