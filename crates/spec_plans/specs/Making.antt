-- The plan that lines make, from what each of them adds.
use Rattle.std.specs.Prelude.{ℕ, ◌==◌, Bool, false, if◌then◌else◌, List, [], ◌∷◌, ◌++◌, map, filter_map, fold, Option, Some, None, unwrap_or}
use Rattle.spec_value.specs.Tree.{Tree}
use Rattle.gl_lines.specs.declared.named.Named.{Named}
use Rattle.gl_lines.specs.declared.line.Line.{Line}
use Rattle.gl_lines.specs.declared.line.Line.TheVariants.{Limit, Source, Row, Csv, EndCsv, Filter, Sorted, Unique, Grouping, Range, Function, Collection, Composite, Transaction, Freezable, Proxy, Listen, Writer, Section, Add, AddAll, Insert, Set, Remove, Clear, Match, Order, Bounds, Apply, Attach, Detach, Begin, Commit, Rollback, Freeze, Thaw, Show}
use Rattle.gl_lines.specs.declared.line.NumberedLine.{NumberedLine}
use Rattle.gl_lines.specs.declared.plan.ListKind.{ListKind}
use Rattle.gl_lines.specs.declared.plan.ListKind.TheVariants as kinds
use Rattle.gl_lines.specs.declared.plan.Command.TheVariants as commands
use Rattle.spec_plans.specs.declared.part.Part.{Part}
use Rattle.spec_plans.specs.declared.part.Part.TheVariants as parts
use Rattle.spec_plans.specs.Names.{list_names, listener_names, number_of}
use Rattle.spec_plans.specs.Plan.{Plan}

-- the number that a name stands for, among these
abbrev pub number : List (List ℕ) → Named → ℕ
number names named = unwrap_or (number_of names named.name) 0

abbrev pub numbers : List (List ℕ) → List Named → List ℕ
numbers names listed = map (number names) listed

-- the element that a `row` line gives to the source of a number
abbrev pub is_number : Option ℕ → ℕ → Bool
is_number None k = false
is_number (Some number) k = number == k

abbrev pub row_for : List (List ℕ) → ℕ → Line → Option Tree
row_for names source (Row list value) =
    if is_number (number_of names list.name) source then Some value else None
row_for names source other = None

-- the opening elements of a source, in the order of their lines
abbrev pub rows_for : List (List ℕ) → List NumberedLine → ℕ → List Tree
rows_for names lines source = filter_map (λ l. row_for names source l.what) lines

-- a list of this name
abbrev pub declared : Named → ListKind → Part
declared named k = parts.List (record { name = named.name; kind = k })

-- What a line adds to a plan, by the names of the lists and of the listeners and by the opening elements of each source.
abbrev pub part_of : List (List ℕ) → List (List ℕ) → (ℕ → List Tree) → Line → Part
part_of lists listeners rows (Limit limit) = parts.Limit limit
part_of lists listeners rows (Source name) = declared name (kinds.Source (rows (number lists name)))
part_of lists listeners rows (Row list value) = parts.Elsewhere
part_of lists listeners rows (Csv list) = parts.Elsewhere
part_of lists listeners rows EndCsv = parts.Elsewhere
part_of lists listeners rows (Filter name input matcher) =
    declared name (kinds.Filter (number lists input) matcher)
part_of lists listeners rows (Sorted name input order) =
    declared name (kinds.Sorted (number lists input) order)
part_of lists listeners rows (Unique name input order) =
    declared name (kinds.Unique (number lists input) order)
part_of lists listeners rows (Grouping name input order) =
    declared name (kinds.Grouping (number lists input) order)
part_of lists listeners rows (Range name input bounds) =
    declared name (kinds.Range (number lists input) bounds)
part_of lists listeners rows (Function name input func) =
    declared name (kinds.Function (number lists input) func)
part_of lists listeners rows (Collection name input kids) =
    declared name (kinds.Collection (number lists input) kids)
part_of lists listeners rows (Composite name members may) =
    declared name (kinds.Composite (numbers lists members) (numbers lists may))
part_of lists listeners rows (Transaction name input) =
    declared name (kinds.Transaction (number lists input))
part_of lists listeners rows (Freezable name input) =
    declared name (kinds.Freezable (number lists input))
part_of lists listeners rows (Proxy name input) = declared name (kinds.Proxy (number lists input))
part_of lists listeners rows (Listen name list after echo) =
    parts.Listener
    (record {
      name = name.name;
      list = number lists list;
      after =
          numbers listeners after;
      echo = echo;
    })
part_of lists listeners rows Writer = parts.Writer
part_of lists listeners rows Section = parts.Section
part_of lists listeners rows (Add list value) =
    parts.Command (commands.Add (number lists list) value)
part_of lists listeners rows (AddAll list values) =
    parts.Command (commands.AddAll (number lists list) values)
part_of lists listeners rows (Insert list index value) =
    parts.Command (commands.Insert (number lists list) index value)
part_of lists listeners rows (Set list index value) =
    parts.Command (commands.Set (number lists list) index value)
part_of lists listeners rows (Remove list index) =
    parts.Command (commands.Remove (number lists list) index)
part_of lists listeners rows (Clear list) = parts.Command (commands.Clear (number lists list))
part_of lists listeners rows (Match list matcher) =
    parts.Command (commands.Match (number lists list) matcher)
part_of lists listeners rows (Order list order) =
    parts.Command (commands.Order (number lists list) order)
part_of lists listeners rows (Bounds list bounds) =
    parts.Command (commands.Bounds (number lists list) bounds)
part_of lists listeners rows (Apply list func) =
    parts.Command (commands.Apply (number lists list) func)
part_of lists listeners rows (Attach list member) =
    parts.Command (commands.Attach (number lists list) (number lists member))
part_of lists listeners rows (Detach list index) =
    parts.Command (commands.Detach (number lists list) index)
part_of lists listeners rows (Begin list) = parts.Command (commands.Begin (number lists list))
part_of lists listeners rows (Commit list) = parts.Command (commands.Commit (number lists list))
part_of lists listeners rows (Rollback list) = parts.Command (commands.Rollback (number lists list))
part_of lists listeners rows (Freeze list) = parts.Command (commands.Freeze (number lists list))
part_of lists listeners rows (Thaw list) = parts.Command (commands.Thaw (number lists list))
part_of lists listeners rows (Show list) = parts.Command (commands.Show (number lists list))

abbrev pub parts_of : List NumberedLine → List Part
parts_of lines =
    map (λ l.
    part_of (list_names lines) (listener_names lines) (rows_for (list_names lines) lines) l.what)
    lines

-- the list with a changed last item; the empty list has none to change
abbrev pub with_last : {X : Type 0} → (X → X) → List X → List X
with_last f [] = []
with_last f (x ∷ []) = f x ∷ []
with_last f (x ∷ y ∷ ys) = x ∷ with_last f (y ∷ ys)

-- a plan with a part more: a list or a listener gets the next number; a section is of the last writer, and a command of its
-- last section
abbrev pub with_part : Plan → Part → Plan
with_part p (parts.Limit limit) = record p { limit = limit }
with_part p (parts.List d) = record p { lists = p.lists ++ d ∷ [] }
with_part p (parts.Listener d) = record p { listeners = p.listeners ++ d ∷ [] }
with_part p parts.Writer = record p { writers = p.writers ++ [] ∷ [] }
with_part p parts.Section =
    record p { writers = with_last (λ sections. sections ++ [] ∷ []) p.writers }
with_part p (parts.Command c) =
    record p { writers = with_last (with_last (λ commands. commands ++ c ∷ [])) p.writers }
with_part p parts.Elsewhere = p

-- the plan of no lines; a list may have this many elements where no line says otherwise
abbrev pub empty_plan : Plan
empty_plan = record { limit = 16777216; lists = []; listeners = []; writers = [] }

-- the plan that lines make
abbrev pub plan_of : List NumberedLine → Plan
plan_of lines = fold with_part empty_plan (parts_of lines)
