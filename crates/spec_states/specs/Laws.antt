-- Laws over all states and commands.
use Rattle.std.specs.Prelude.{◌≡◌, ◌<◌, ⊤, ℕ, List, [], ◌∷◌, length, All, Contains, Option, Some, None}
use Rattle.spec_value.specs.Tree.{Tree}
use Rattle.spec_lists.specs.Piece.{IsNormal}
use Rattle.spec_lists.specs.Delta.{Delta}
use Rattle.spec_lists.specs.Leads.{LeadsFrom, LeadsTo, IsDelta, applied, undone}
use Rattle.gl_lines.specs.declared.plan.Command.{Command}
use Rattle.gl_lines.specs.declared.plan.Command.TheVariants as c
use Rattle.spec_order.specs.Edges.{AreWithin}
use Rattle.spec_order.specs.Cycle.{HasCycle}
use Rattle.spec_states.specs.State.{Own, State, source, over, composite, transaction, freezable, proxy, own_at, edges_of}
use Rattle.spec_states.specs.Shown.{Table, shows_in, shown}
use Rattle.spec_states.specs.Wave.{Deltas, delta_in}

-- the lists of a state depend on lists of the state, and none on itself through others
pub record IsOrdered (s : State) : Type 0 where
  pub within : AreWithin (length s) (edges_of s)
  pub acyclic : ¬ HasCycle (edges_of s)

-- deltas that led to a list, the last of them first
abbrev pub LedTo : List Delta → List Tree → Type 0
LedTo [] xs = ⊤
LedTo (d ∷ ds) xs = LeadsTo d xs × IsNormal d × LedTo ds (undone d xs)

-- deltas that lead on from a list, one after another
abbrev pub LeadOnFrom : List Delta → List Tree → Type 0
LeadOnFrom [] xs = ⊤
LeadOnFrom (d ∷ ds) xs = LeadsFrom d xs × IsNormal d × LeadOnFrom ds (applied d xs)

abbrev pub IsSource : Own → Type 0
IsSource (source contents) = ⊤
IsSource other = ⊥

-- what a freezable list is yet to tell, if it is frozen
abbrev pub since_frozen : Option Delta → List Delta
since_frozen None = []
since_frozen (Some since) = since ∷ []

-- What a list keeps fits its inputs: the members of a composite are among the lists that it depends on; the open levels of a
-- transaction list led to what its source shows, and what became of the input of a frozen list led to what that shows; and what
-- a proxy is yet to take leads on from what it shows.
abbrev pub Fits : State → Own → Type 0
Fits s (source contents) = ⊤
Fits s (over input view) = ⊤
Fits s (composite needed members) = All (λ member. Contains needed member) members
Fits s (transaction input levels) = IsSource (own_at s input) × LedTo levels (shown s input)
Fits s (freezable input since) = LedTo (since_frozen since) (shown s input)
Fits s (proxy input kept queue) = LeadOnFrom queue kept

-- a state as plans have it
pub record IsSound (s : State) : Type 0 where
  pub ordered : IsOrdered s
  pub fits : (list : ℕ) → list < length s → Fits s (own_at s list)

-- a list that is attached is one that the composite depends on
abbrev pub MayAttach : Command → Own → Type 0
MayAttach (c.Attach list member) (composite needed members) = Contains needed member
MayAttach other own = ⊤

-- A transaction list takes `begin`, `commit`, `rollback` and `show` alone, a freezable list `freeze`, `thaw` and `show`.
abbrev pub OfTransaction : Command → Type 0
OfTransaction (c.Begin list) = ⊤
OfTransaction (c.Commit list) = ⊤
OfTransaction (c.Rollback list) = ⊤
OfTransaction (c.Show list) = ⊤
OfTransaction other = ⊥

abbrev pub OfFreezable : Command → Type 0
OfFreezable (c.Freeze list) = ⊤
OfFreezable (c.Thaw list) = ⊤
OfFreezable (c.Show list) = ⊤
OfFreezable other = ⊥

-- a list that can be held takes the commands of its kind
abbrev pub MayTake : Command → Own → Type 0
MayTake command (transaction input levels) = OfTransaction command
MayTake command (freezable input since) = OfFreezable command
MayTake command other = ⊤

-- each of the deltas, one a list, leads from what its list shows in the one table to what it shows in the other
pub record Lead (deltas : Deltas) (before after : Table) : Type 0 where
  pub long : length deltas ≡ length before
  pub same : length after ≡ length before
  pub each : (list : ℕ) → list < length before
      → IsDelta (delta_in deltas list) (shows_in before list) (shows_in after list)
  pub normal : (list : ℕ) → list < length before → IsNormal (delta_in deltas list)
