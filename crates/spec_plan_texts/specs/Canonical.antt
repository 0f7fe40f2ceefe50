-- The lines that a plan is written as, and its one text.
use Rattle.std.specs.Prelude.{ℕ, List, [], ◌∷◌, ◌++◌, map, flat_map, slice_get, unwrap_or, codes}
use Rattle.gl_lines.specs.declared.named.Named.{Named}
use Rattle.gl_lines.specs.declared.line.Line.{Line}
use Rattle.gl_lines.specs.declared.line.Line.TheVariants as line
use Rattle.gl_lines.specs.declared.plan.ListDecl.{ListDecl}
use Rattle.gl_lines.specs.declared.plan.ListKind.{ListKind}
use Rattle.gl_lines.specs.declared.plan.ListKind.TheVariants as kinds
use Rattle.gl_lines.specs.declared.plan.ListenerDecl.{ListenerDecl}
use Rattle.gl_lines.specs.declared.plan.Command.{Command}
use Rattle.gl_lines.specs.declared.plan.Command.TheVariants as commands
use Rattle.spec_lines.specs.Spelled.{spelled_line}
use Rattle.spec_plans.specs.Plan.{Plan}
use Rattle.spec_plans.specs.PlanNames.{unplaced_name, named, names_of_lists, names_of_listeners}

-- the line that declares a list, by the names of all lists
abbrev pub list_line : List (List ℕ) → Named → ListKind → Line
list_line names name (kinds.Source rows) = line.Source name
list_line names name (kinds.Filter input matcher) = line.Filter name (named names input) matcher
list_line names name (kinds.Sorted input order) = line.Sorted name (named names input) order
list_line names name (kinds.Unique input order) = line.Unique name (named names input) order
list_line names name (kinds.Grouping input order) = line.Grouping name (named names input) order
list_line names name (kinds.Range input bounds) = line.Range name (named names input) bounds
list_line names name (kinds.Function input func) = line.Function name (named names input) func
list_line names name (kinds.Collection input kids) = line.Collection name (named names input) kids
list_line names name (kinds.Composite members may) = line.Composite name (map (named names) members)
    (map (named names) may)
list_line names name (kinds.Transaction input) = line.Transaction name (named names input)
list_line names name (kinds.Freezable input) = line.Freezable name (named names input)
list_line names name (kinds.Proxy input) = line.Proxy name (named names input)

-- the lines of the opening elements of a source; other lists have none
abbrev pub row_lines : Named → ListKind → List Line
row_lines name (kinds.Source rows) = map (line.Row name) rows
row_lines name other = []

-- a list, a source with its opening elements
abbrev pub lines_of_list : List (List ℕ) → ListDecl → List Line
lines_of_list names d =
    list_line names (unplaced_name d.name) d.kind ∷ row_lines (unplaced_name d.name) d.kind

-- the line that declares a listener, by the names of all lists and of all listeners
abbrev pub listener_line : List (List ℕ) → List (List ℕ) → ListenerDecl → Line
listener_line lists listeners d = line.Listen (unplaced_name d.name) (named lists d.list)
    (map (named listeners) d.after) d.echo

abbrev pub command_line : List (List ℕ) → Command → Line
command_line names (commands.Add list value) = line.Add (named names list) value
command_line names (commands.AddAll list values) = line.AddAll (named names list) values
command_line names (commands.Insert list index value) = line.Insert (named names list) index value
command_line names (commands.Set list index value) = line.Set (named names list) index value
command_line names (commands.Remove list index) = line.Remove (named names list) index
command_line names (commands.Clear list) = line.Clear (named names list)
command_line names (commands.Match list matcher) = line.Match (named names list) matcher
command_line names (commands.Order list order) = line.Order (named names list) order
command_line names (commands.Bounds list bounds) = line.Bounds (named names list) bounds
command_line names (commands.Apply list func) = line.Apply (named names list) func
command_line names (commands.Attach list member) =
    line.Attach (named names list) (named names member)
command_line names (commands.Detach list index) = line.Detach (named names list) index
command_line names (commands.Begin list) = line.Begin (named names list)
command_line names (commands.Commit list) = line.Commit (named names list)
command_line names (commands.Rollback list) = line.Rollback (named names list)
command_line names (commands.Freeze list) = line.Freeze (named names list)
command_line names (commands.Thaw list) = line.Thaw (named names list)
command_line names (commands.Show list) = line.Show (named names list)

abbrev pub lines_of_section : List (List ℕ) → List Command → List Line
lines_of_section names section = line.Section ∷ map (command_line names) section

abbrev pub lines_of_writer : List (List ℕ) → List (List Command) → List Line
lines_of_writer names sections = line.Writer ∷ flat_map (lines_of_section names) sections

-- The lines of a plan: the limit, the lists by number, the listeners by number, and the writers.
abbrev pub lines_of_plan : Plan → List Line
lines_of_plan p =
    line.Limit p.limit ∷ flat_map (lines_of_list (names_of_lists p)) p.lists
    ++ map (listener_line (names_of_lists p) (names_of_listeners p)) p.listeners
    ++ flat_map (lines_of_writer (names_of_lists p)) p.writers

-- a line with its line feed
abbrev pub ended : Line → List ℕ
ended l = spelled_line l ++ codes "\n"

-- the one text of a plan
abbrev pub spelled_plan : Plan → List ℕ
spelled_plan p = codes "glaze 1\n" ++ flat_map ended (lines_of_plan p)
