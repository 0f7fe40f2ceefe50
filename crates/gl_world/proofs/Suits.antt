-- A command that is for the lists of a state, and isn't `show`, suits what its list keeps.
use Rattle.std.proofs.Common.{◌≡◌, ℕ, List, sym, subst}
use Rattle.spec_states.specs.Command.{Command}
use Rattle.spec_states.specs.Command.TheVariants as c
use Rattle.spec_states.specs.ListClass.{ListClass}
use Rattle.spec_states.specs.ListClass.TheVariants as class
use Rattle.spec_states.specs.Plan.{origin as about}
use Rattle.spec_states.specs.WellFormed.{needed_class}
use Rattle.spec_states.specs.View.{filter, sorted, unique, grouping, range, function, collection}
use Rattle.spec_states.specs.State.{Own, source, over, composite, transaction, freezable, proxy, own_at}
use Rattle.spec_states.specs.Wave.{parameter_of}
use Rattle.spec_states.specs.Laws.{MayAttach}
use Rattle.spec_runs.specs.Kinds.{class_of_own, HasClass, IsFor, IsChange}
use Rattle.gl_graph.specs.Graph.{Kept, state_of}
use Rattle.gl_graph.specs.Commands.{IsEdit, IsMatcher, IsOrder, IsBounds, IsFunc, IsMembership, IsOfLevels, IsOfFreezing, Suits}

-- the command is one for the lists of a class
abbrev ForClass : ListClass → Command → Type 0
ForClass class.Edited command = IsEdit command
ForClass class.Filtered command = IsMatcher (parameter_of command)
ForClass class.Ordered command = IsOrder (parameter_of command)
ForClass class.Bounded command = IsBounds (parameter_of command)
ForClass class.Mapped command = IsFunc (parameter_of command)
ForClass class.Collected command = ⊥
ForClass class.Composed command = IsMembership command
ForClass class.Undone command = IsOfLevels command
ForClass class.Frozen command = IsOfFreezing command
ForClass class.Pumped command = ⊥

for_own : (command : Command) (own : Own) (needed : ListClass) → class_of_own own ≡ needed → ForClass needed command
    → ForClass (class_of_own own) command
for_own command own needed is h = subst (λ k. ForClass k command) (sym is) h

by_class : (command : Command) (own : Own) → IsChange command → HasClass (needed_class command) own
    → ForClass (class_of_own own) command
by_class (c.Add list value) own change is = for_own (c.Add list value) own class.Edited is tt
by_class (c.AddAll list values) own change is = for_own (c.AddAll list values) own class.Edited is tt
by_class (c.Insert list index value) own change is = for_own (c.Insert list index value) own class.Edited is tt
by_class (c.Set list index value) own change is = for_own (c.Set list index value) own class.Edited is tt
by_class (c.Remove list index) own change is = for_own (c.Remove list index) own class.Edited is tt
by_class (c.Clear list) own change is = for_own (c.Clear list) own class.Edited is tt
by_class (c.Match list matcher) own change is = for_own (c.Match list matcher) own class.Filtered is tt
by_class (c.Order list order) own change is = for_own (c.Order list order) own class.Ordered is tt
by_class (c.Bounds list bounds) own change is = for_own (c.Bounds list bounds) own class.Bounded is tt
by_class (c.Apply list func) own change is = for_own (c.Apply list func) own class.Mapped is tt
by_class (c.Attach list member) own change is = for_own (c.Attach list member) own class.Composed is tt
by_class (c.Detach list index) own change is = for_own (c.Detach list index) own class.Composed is tt
by_class (c.Begin list) own change is = for_own (c.Begin list) own class.Undone is tt
by_class (c.Commit list) own change is = for_own (c.Commit list) own class.Undone is tt
by_class (c.Rollback list) own change is = for_own (c.Rollback list) own class.Undone is tt
by_class (c.Freeze list) own change is = for_own (c.Freeze list) own class.Frozen is tt
by_class (c.Thaw list) own change is = for_own (c.Thaw list) own class.Frozen is tt
by_class (c.Show list) own change is = absurd change

-- a member that is attached may be
suits_members : (command : Command) (needed members : List ℕ) → IsMembership command
    → MayAttach command (composite needed members) → Suits command (composite needed members)
suits_members (c.Attach list member) needed members h may = may
suits_members (c.Detach list index) needed members h may = tt
suits_members other needed members h may = absurd h

suits_class : (command : Command) (own : Own) → ForClass (class_of_own own) command
    → MayAttach command own → Suits command own
suits_class command (source contents) h may = h
suits_class command (over input (filter matcher)) h may = h
suits_class command (over input (sorted keys)) h may = h
suits_class command (over input (unique keys)) h may = h
suits_class command (over input (grouping keys)) h may = h
suits_class command (over input (range bounds)) h may = h
suits_class command (over input (function func)) h may = h
suits_class command (over input (collection path)) h may = h
suits_class command (composite needed members) h may = suits_members command needed members h may
suits_class command (transaction input levels) h may = h
suits_class command (freezable input since) h may = h
suits_class command (proxy input kept queue) h may = absurd h

pub graph_suits : (k : Kept) (command : Command) → IsFor command (state_of k) → IsChange command
    → Suits command (own_at (state_of k) (about command))
graph_suits k command h change =
    let own : Own = own_at (state_of k) (about command) in
    suits_class command own (by_class command own change h.suits) h.may
