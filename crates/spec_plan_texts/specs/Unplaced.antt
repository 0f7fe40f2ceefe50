-- Lines by what they say, wherever their names stand in them.
use Rattle.std.specs.Prelude.{List, map}
use Rattle.gl_lines.specs.declared.named.Named.{Named}
use Rattle.gl_lines.specs.declared.line.Line.{Line}
use Rattle.gl_lines.specs.declared.line.Line.TheVariants.{Limit, Source, Row, Csv, EndCsv, Filter, Sorted, Unique, Grouping, Range, Function, Collection, Composite, Transaction, Freezable, Proxy, Listen, Writer, Section, Add, AddAll, Insert, Set, Remove, Clear, Match, Order, Bounds, Apply, Attach, Detach, Begin, Commit, Rollback, Freeze, Thaw, Show}
use Rattle.gl_lines.specs.declared.line.NumberedLine.{NumberedLine}
use Rattle.spec_plans.specs.declared.fault.FaultAt.{FaultAt}
use Rattle.spec_plans.specs.PlanNames.{unplaced_name}

-- a name taken out of its column
abbrev pub taken_out : Named → Named
taken_out n = unplaced_name n.name

-- a line with its names taken out of their columns
abbrev pub unplaced : Line → Line
unplaced (Limit limit) = Limit limit
unplaced (Source name) = Source (taken_out name)
unplaced (Row list value) = Row (taken_out list) value
unplaced (Csv list) = Csv (taken_out list)
unplaced EndCsv = EndCsv
unplaced (Filter name input matcher) = Filter (taken_out name) (taken_out input) matcher
unplaced (Sorted name input order) = Sorted (taken_out name) (taken_out input) order
unplaced (Unique name input order) = Unique (taken_out name) (taken_out input) order
unplaced (Grouping name input order) = Grouping (taken_out name) (taken_out input) order
unplaced (Range name input bounds) = Range (taken_out name) (taken_out input) bounds
unplaced (Function name input func) = Function (taken_out name) (taken_out input) func
unplaced (Collection name input kids) = Collection (taken_out name) (taken_out input) kids
unplaced (Composite name members may) =
    Composite (taken_out name) (map taken_out members) (map taken_out may)
unplaced (Transaction name input) = Transaction (taken_out name) (taken_out input)
unplaced (Freezable name input) = Freezable (taken_out name) (taken_out input)
unplaced (Proxy name input) = Proxy (taken_out name) (taken_out input)
unplaced (Listen name list after echo) =
    Listen (taken_out name) (taken_out list) (map taken_out after) echo
unplaced Writer = Writer
unplaced Section = Section
unplaced (Add list value) = Add (taken_out list) value
unplaced (AddAll list values) = AddAll (taken_out list) values
unplaced (Insert list index value) = Insert (taken_out list) index value
unplaced (Set list index value) = Set (taken_out list) index value
unplaced (Remove list index) = Remove (taken_out list) index
unplaced (Clear list) = Clear (taken_out list)
unplaced (Match list matcher) = Match (taken_out list) matcher
unplaced (Order list order) = Order (taken_out list) order
unplaced (Bounds list bounds) = Bounds (taken_out list) bounds
unplaced (Apply list func) = Apply (taken_out list) func
unplaced (Attach list member) = Attach (taken_out list) (taken_out member)
unplaced (Detach list index) = Detach (taken_out list) index
unplaced (Begin list) = Begin (taken_out list)
unplaced (Commit list) = Commit (taken_out list)
unplaced (Rollback list) = Rollback (taken_out list)
unplaced (Freeze list) = Freeze (taken_out list)
unplaced (Thaw list) = Thaw (taken_out list)
unplaced (Show list) = Show (taken_out list)

-- the same lines of a text, without the columns of their names
abbrev pub unplaced_lines : List NumberedLine → List NumberedLine
unplaced_lines lines = map (λ l. record { line = l.line; what = unplaced l.what }) lines

-- a fault, but for its column
abbrev pub in_its_line : FaultAt → FaultAt
in_its_line f = record { line = f.line; column = 1; kind = f.kind }
