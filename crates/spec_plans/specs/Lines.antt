-- What a line declares, and what list it is about.
use Rattle.std.specs.Prelude.{Bool, true, false, ◌||◌, List, [], ◌∷◌, Option, Some, None}
use Rattle.std.specs.Option.{is_some}
use Rattle.gl_lines.specs.declared.named.Named.{Named}
use Rattle.gl_lines.specs.declared.line.Line.{Line}
use Rattle.gl_lines.specs.declared.line.Line.TheVariants.{Limit, Source, Row, Csv, EndCsv, Filter, Sorted, Unique, Grouping, Range, Function, Collection, Composite, Transaction, Freezable, Proxy, Listen, Writer, Section, Add, AddAll, Insert, Set, Remove, Clear, Match, Order, Bounds, Apply, Attach, Detach, Begin, Commit, Rollback, Freeze, Thaw, Show}
use Rattle.spec_plans.specs.declared.class.ListClass.{ListClass}
use Rattle.spec_plans.specs.declared.class.ListClass.TheVariants.{Edited, Filtered, Ordered, Bounded, Mapped, Collected, Composed, Undone, Frozen, Pumped}

-- The head of a line that declares a list: its name and class, its input or opening members, and the lists that may
-- become members too.
pub record Head : Type 0 where
  pub name : Named
  pub class : ListClass
  pub inputs : List Named
  pub may : List Named

-- a list with these inputs
abbrev pub over : Named → ListClass → List Named → Head
over name class inputs = record { name = name; class = class; inputs = inputs; may = [] }

-- the head of a line that declares a list
abbrev pub head_of : Line → Option Head
head_of (Source name) = Some (over name Edited [])
head_of (Filter name input matcher) = Some (over name Filtered (input ∷ []))
head_of (Sorted name input order) = Some (over name Ordered (input ∷ []))
head_of (Unique name input order) = Some (over name Ordered (input ∷ []))
head_of (Grouping name input order) = Some (over name Ordered (input ∷ []))
head_of (Range name input bounds) = Some (over name Bounded (input ∷ []))
head_of (Function name input func) = Some (over name Mapped (input ∷ []))
head_of (Collection name input kids) = Some (over name Collected (input ∷ []))
head_of (Composite name members may) =
    Some (record { name = name; class = Composed; inputs = members; may = may })
head_of (Transaction name input) = Some (over name Undone (input ∷ []))
head_of (Freezable name input) = Some (over name Frozen (input ∷ []))
head_of (Proxy name input) = Some (over name Pumped (input ∷ []))
head_of other = None

-- a line that declares a listener: its name, its list, and the listeners that it is told after
pub record Hearer : Type 0 where
  pub name : Named
  pub list : Named
  pub after : List Named

abbrev pub hearer_of : Line → Option Hearer
hearer_of (Listen name list after echo) = Some (record { name = name; list = list; after = after })
hearer_of other = None

-- the list whose opening elements a line gives
abbrev pub fed_by : Line → Option Named
fed_by (Row list value) = Some list
fed_by (Csv list) = Some list
fed_by other = None

-- the list that a command is about, and the class that it needs to be of; `show` needs none
abbrev pub commanded_by : Line → Option (Named × Option ListClass)
commanded_by (Add list value) = Some (list, Some Edited)
commanded_by (AddAll list values) = Some (list, Some Edited)
commanded_by (Insert list index value) = Some (list, Some Edited)
commanded_by (Set list index value) = Some (list, Some Edited)
commanded_by (Remove list index) = Some (list, Some Edited)
commanded_by (Clear list) = Some (list, Some Edited)
commanded_by (Match list matcher) = Some (list, Some Filtered)
commanded_by (Order list order) = Some (list, Some Ordered)
commanded_by (Bounds list bounds) = Some (list, Some Bounded)
commanded_by (Apply list func) = Some (list, Some Mapped)
commanded_by (Attach list member) = Some (list, Some Composed)
commanded_by (Detach list index) = Some (list, Some Composed)
commanded_by (Begin list) = Some (list, Some Undone)
commanded_by (Commit list) = Some (list, Some Undone)
commanded_by (Rollback list) = Some (list, Some Undone)
commanded_by (Freeze list) = Some (list, Some Frozen)
commanded_by (Thaw list) = Some (list, Some Frozen)
commanded_by (Show list) = Some (list, None)
commanded_by other = None

-- the list that a line attaches to a composite
abbrev pub attached_by : Line → Option Named
attached_by (Attach list member) = Some member
attached_by other = None

abbrev pub is_limit : Line → Bool
is_limit (Limit limit) = true
is_limit other = false

abbrev pub is_end : Line → Bool
is_end EndCsv = true
is_end other = false

abbrev pub is_writer : Line → Bool
is_writer Writer = true
is_writer other = false

abbrev pub is_section : Line → Bool
is_section Section = true
is_section other = false

abbrev pub is_list : Line → Bool
is_list line = is_some (head_of line)

abbrev pub is_listener : Line → Bool
is_listener line = is_some (hearer_of line)

abbrev pub is_command : Line → Bool
is_command line = is_some (commanded_by line)

-- a declaration: the limit, a list, a listener, or elements of a source
abbrev pub is_declaration : Line → Bool
is_declaration line = is_limit line || is_list line || is_listener line || is_some (fed_by line)
