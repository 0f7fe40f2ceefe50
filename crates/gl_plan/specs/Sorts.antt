-- Sorts of lines, as they are taken one after another.
use Rattle.std.specs.Prelude.{Bool, true, false}
use Rattle.gl_lines.specs.declared.line.Line.{Line}
use Rattle.gl_lines.specs.declared.line.Line.TheVariants.{Filter, Sorted, Unique, Grouping, Range, Function, Collection, Transaction, Freezable, Proxy, Add, AddAll, Insert, Set, Remove, Clear, Begin, Commit, Rollback, Freeze, Thaw, Show}

-- a list whose declaration holds no more than its input and numbers
abbrev pub is_plain : Line → Bool
is_plain (Range name input bounds) = true
is_plain (Transaction name input) = true
is_plain (Freezable name input) = true
is_plain (Proxy name input) = true
is_plain other = false

-- a list of one input and of what makes it another list
abbrev pub is_view : Line → Bool
is_view (Filter name input matcher) = true
is_view (Sorted name input order) = true
is_view (Unique name input order) = true
is_view (Grouping name input order) = true
is_view (Function name input func) = true
is_view (Collection name input kids) = true
is_view other = false

-- a command that names no more than its list
abbrev pub is_bare : Line → Bool
is_bare (Clear list) = true
is_bare (Begin list) = true
is_bare (Commit list) = true
is_bare (Rollback list) = true
is_bare (Freeze list) = true
is_bare (Thaw list) = true
is_bare (Show list) = true
is_bare other = false

-- a command about an element, or about several
abbrev pub is_edit : Line → Bool
is_edit (Add list value) = true
is_edit (AddAll list values) = true
is_edit (Insert list index value) = true
is_edit (Set list index value) = true
is_edit (Remove list index) = true
is_edit other = false
