-- The text of an event, as it is written piece by piece.
use Rattle.std.specs.Prelude.{ℕ, Bool, true, false, List, [], codes}
use Rattle.gl_event.specs.ListsChanges.{Change}
use Rattle.spec_reports.specs.Event.{other_changes, changes_text}

-- what stands before a change: nothing before the first
abbrev pub separator : Bool → List ℕ
separator true = []
separator false = codes "; "

-- the changes that are left, by whether the first of them is the first of all
abbrev pub changes_left : Bool → List Change → List ℕ
changes_left true cs = changes_text cs
changes_left false cs = other_changes cs
