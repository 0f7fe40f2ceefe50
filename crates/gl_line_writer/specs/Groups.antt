-- The lines in three groups, each written by a function of its own.
use Rattle.std.specs.Prelude.{⊤}
use Rattle.gl_lines.specs.declared.line.Line.{Line}
use Rattle.gl_lines.specs.declared.line.Line.TheVariants as line

-- a line of a writer's section
abbrev pub IsCommand : Line → Type 0
IsCommand (line.Add list value) = ⊤
IsCommand (line.AddAll list values) = ⊤
IsCommand (line.Insert list index value) = ⊤
IsCommand (line.Set list index value) = ⊤
IsCommand (line.Remove list index) = ⊤
IsCommand (line.Clear list) = ⊤
IsCommand (line.Match list matcher) = ⊤
IsCommand (line.Order list order) = ⊤
IsCommand (line.Bounds list bounds) = ⊤
IsCommand (line.Apply list func) = ⊤
IsCommand (line.Attach list member) = ⊤
IsCommand (line.Detach list index) = ⊤
IsCommand (line.Begin list) = ⊤
IsCommand (line.Commit list) = ⊤
IsCommand (line.Rollback list) = ⊤
IsCommand (line.Freeze list) = ⊤
IsCommand (line.Thaw list) = ⊤
IsCommand (line.Show list) = ⊤
IsCommand _ = ⊥

-- a line that declares a list over others, or a command
abbrev pub IsOverOrCommand : Line → Type 0
IsOverOrCommand (line.Filter name input matcher) = ⊤
IsOverOrCommand (line.Sorted name input order) = ⊤
IsOverOrCommand (line.Unique name input order) = ⊤
IsOverOrCommand (line.Grouping name input order) = ⊤
IsOverOrCommand (line.Range name input bounds) = ⊤
IsOverOrCommand (line.Function name input func) = ⊤
IsOverOrCommand (line.Collection name input kids) = ⊤
IsOverOrCommand (line.Composite name members may) = ⊤
IsOverOrCommand (line.Transaction name input) = ⊤
IsOverOrCommand (line.Freezable name input) = ⊤
IsOverOrCommand (line.Proxy name input) = ⊤
IsOverOrCommand l = IsCommand l
