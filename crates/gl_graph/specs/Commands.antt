-- Which commands suit which lists, and the edits of sources that they come to.
use Rattle.std.specs.Prelude.{◌≡◌, ◌<◌, ◌≤◌, ⊤, ℕ, [], ◌∷◌, List, length, Option, None, Some}
use Rattle.std.specs.List.{Contains}
use Rattle.spec_states.specs.Tree.{Tree}
use Rattle.spec_states.specs.Command.{Command}
use Rattle.spec_states.specs.Command.TheVariants as c
use Rattle.spec_states.specs.Reply.TheVariants as reply
use Rattle.gl_source.specs.declared.edit.Edit.{Edit}
use Rattle.gl_source.specs.declared.edit.Edit.TheVariants as e
use Rattle.gl_source.specs.declared.fault.EditFault.{EditFault}
use Rattle.gl_source.specs.declared.fault.EditFault.TheVariants.{OutOfRange, TooLong, Memory}
use Rattle.spec_states.specs.View.{View, filter, sorted, unique, grouping, range, function, collection, Parameter, matcher, order, bounds, func}
use Rattle.spec_states.specs.State.{Own, source, over, composite, transaction, freezable}
use Rattle.spec_states.specs.Step.{refused_by}
use Rattle.spec_states.specs.Wave.{parameter_of, edited}

-- the command edits a source
abbrev pub IsEdit : Command → Type 0
IsEdit (c.Add list value) = ⊤
IsEdit (c.AddAll list values) = ⊤
IsEdit (c.Insert list index value) = ⊤
IsEdit (c.Set list index value) = ⊤
IsEdit (c.Remove list index) = ⊤
IsEdit (c.Clear list) = ⊤
IsEdit other = ⊥

-- a parameter of each kind is given
abbrev pub IsMatcher : Option Parameter → Type 0
IsMatcher (Some (matcher m)) = ⊤
IsMatcher other = ⊥

abbrev pub IsOrder : Option Parameter → Type 0
IsOrder (Some (order keys)) = ⊤
IsOrder other = ⊥

abbrev pub IsBounds : Option Parameter → Type 0
IsBounds (Some (bounds b)) = ⊤
IsBounds other = ⊥

abbrev pub IsFunc : Option Parameter → Type 0
IsFunc (Some (func f)) = ⊤
IsFunc other = ⊥

-- one is given that the kind of list takes
abbrev pub Gives : View → Option Parameter → Type 0
Gives (filter old) given = IsMatcher given
Gives (sorted old) given = IsOrder given
Gives (unique old) given = IsOrder given
Gives (grouping old) given = IsOrder given
Gives (range old) given = IsBounds given
Gives (function old) given = IsFunc given
Gives (collection path) given = ⊥

-- the command attaches or detaches a member
abbrev pub IsMembership : Command → Type 0
IsMembership (c.Attach list member) = ⊤
IsMembership (c.Detach list index) = ⊤
IsMembership other = ⊥

-- and a member that it attaches is among these
abbrev pub IsMembershipOf : List ℕ → Command → Type 0
IsMembershipOf needed (c.Attach list member) = Contains needed member
IsMembershipOf needed (c.Detach list index) = ⊤
IsMembershipOf needed other = ⊥

-- the command opens or closes a level
abbrev pub IsOfLevels : Command → Type 0
IsOfLevels (c.Begin list) = ⊤
IsOfLevels (c.Commit list) = ⊤
IsOfLevels (c.Rollback list) = ⊤
IsOfLevels other = ⊥

-- the command freezes a list or lets it go
abbrev pub IsOfFreezing : Command → Type 0
IsOfFreezing (c.Freeze list) = ⊤
IsOfFreezing (c.Thaw list) = ⊤
IsOfFreezing other = ⊥

-- the command is no rollback
abbrev pub IsNoRollback : Command → Type 0
IsNoRollback (c.Rollback list) = ⊥
IsNoRollback other = ⊤

-- a list that keeps this may be rolled back
abbrev pub CanRollBack : Own → Type 0
CanRollBack (transaction input levels) = ⊤
CanRollBack other = ⊥

-- it is one for a list that keeps this
abbrev pub Suits : Command → Own → Type 0
Suits c (source contents) = IsEdit c
Suits c (over input view) = Gives view (parameter_of c)
Suits c (composite needed members) = IsMembershipOf needed c
Suits c (transaction input levels) = IsOfLevels c
Suits c (freezable input since) = IsOfFreezing c
Suits c other = ⊥

-- the edit that such a command comes to
abbrev pub edit_for : Command → Edit
edit_for (c.Add list value) = e.Append (value ∷ [])
edit_for (c.AddAll list values) = e.Append values
edit_for (c.Insert list index value) = e.Insert index value
edit_for (c.Set list index value) = e.Set index value
edit_for (c.Remove list index) = e.Remove index
edit_for other = e.Clear

-- the edit has its place in a source of these contents, and would make it longer than it may be
pub record IsTooLong (c : Command) (contents : List Tree) (limit len : ℕ) : Type 0 where
  pub inside : refused_by (source contents) c ≡ None
  pub past : limit < len
  pub len_is : len ≡ length (edited c contents)

-- this is why a source of these contents isn't edited, where it may have so many elements
abbrev pub IsWhy : Command → List Tree → ℕ → EditFault → Type 0
IsWhy c contents limit (OutOfRange index len) =
    refused_by (source contents) c ≡ Some (reply.OutOfRange index len)
IsWhy c contents limit (TooLong len) = IsTooLong c contents limit len
IsWhy c contents limit Memory = ⊤

-- the edit has its place, and leaves the source no longer than it may be
pub record IsMade (c : Command) (contents : List Tree) (limit : ℕ) : Type 0 where
  pub inside : refused_by (source contents) c ≡ None
  pub few : length (edited c contents) ≤ limit
