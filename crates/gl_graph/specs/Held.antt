-- What a list that can be held keeps in a graph: the one file that goes by its kind.
use Rattle.std.specs.Prelude.{◌≡◌, ⊤, ℕ, List, Option, Some, None}
use Rattle.spec_states.specs.Tree.{Tree}
use Rattle.spec_states.specs.Delta.{Delta}
use Rattle.spec_states.specs.Command.{Command}
use Rattle.spec_states.specs.Command.TheVariants as c
use Rattle.spec_states.specs.State.{Own, transaction, freezable}
use Rattle.spec_states.specs.Wave.{beginning, first_delta, levels_after, since_after}
use Rattle.spec_states.specs.Step.{refused_by}
use Rattle.spec_states.specs.Laws.{LedTo, since_frozen}
use Rattle.gl_source.specs.Model.{DeltaModel}
use Rattle.gl_held.specs.Levels.{followed, followed_since}
use Rattle.gl_held.specs.Back.{levels_before, since_before, IsOfFreezable}
use Rattle.gl_held.specs.Back as back
use Rattle.gl_held.specs.declared.transaction.Closed.{Closed}
use Rattle.gl_held.specs.declared.transaction.Closed.TheVariants.{Inner, Outer}
use Rattle.gl_held.specs.declared.undo.HeldUndo.{HeldUndo}
use Rattle.gl_graph.specs.declared.held.Held.{Held}
use Rattle.gl_graph.specs.declared.held.Held.TheVariants.{Transaction, Freezable}
use Rattle.gl_graph.specs.Room.{Room, room, IsNoMore}

-- as the state has it, over that input
abbrev pub own_of_held : ℕ → Held → Own
own_of_held input (Transaction t) = transaction input t.levels
own_of_held input (Freezable since) = freezable input since

-- what became of its input since it is held, the last delta first
abbrev pub deltas_of : Held → List Delta
deltas_of (Transaction t) = t.levels
deltas_of (Freezable since) = since_frozen since

-- that led to what the input shows
abbrev pub StandsFor : Held → List Tree → Type 0
StandsFor held xs = LedTo (deltas_of held) xs

-- what it is, whatever its room
pub data Contents : Type 0 where
  of_transaction : List Delta → Contents
  of_freezable : Option Delta → Contents

abbrev pub contents : Held → Contents
contents (Transaction t) = of_transaction t.levels
contents (Freezable since) = of_freezable since

abbrev pub own_by : ℕ → Contents → Own
own_by input (of_transaction levels) = transaction input levels
own_by input (of_freezable since) = freezable input since

-- how much it has room for
abbrev pub room_of : Held → Room
room_of (Transaction t) = room t.room
room_of (Freezable since) = room 0

-- what an undo makes of it
abbrev pub before : HeldUndo → Held → Contents
before undo (Transaction t) = of_transaction (levels_before undo.way t.levels)
before undo (Freezable since) = of_freezable (since_before undo.way since)

-- the undo is of its kind, and it has what the way back needs
abbrev pub CanRetreat : HeldUndo → Held → Type 0
CanRetreat undo (Transaction t) = back.CanRetreat undo t
CanRetreat undo (Freezable since) = IsOfFreezable undo.way

-- the undo is of its last change: it leads back to what it was, in no less room, and can be made
pub record IsUndo (undo : HeldUndo) (old new : Held) : Type 0 where
  pub back : before undo new ≡ contents old
  pub room : IsNoMore (room_of old) (room_of new)
  pub can : CanRetreat undo new

-- ---- a command for it

-- it takes the command by itself: any of its kind but a rollback
abbrev pub Takes : Command → Held → Type 0
Takes (c.Begin list) (Transaction t) = ⊤
Takes (c.Commit list) (Transaction t) = ⊤
Takes (c.Freeze list) (Freezable since) = ⊤
Takes (c.Thaw list) (Freezable since) = ⊤
Takes other held = ⊥

-- what it keeps after a command, where its input has so many elements
abbrev pub taken : Command → ℕ → Held → Contents
taken command len (Transaction t) = of_transaction (levels_after command len t.levels)
taken command len (Freezable since) = of_freezable (since_after command len since)

-- it tells the delta with which the wave of the command begins, or nothing where none begins
abbrev pub IsToldBy : Command → Held → Option DeltaModel → Type 0
IsToldBy command held None =
    (number input : ℕ) → beginning command number (own_of_held input held) ≡ None
IsToldBy command held (Some d) =
    (number input : ℕ) (shows : ℕ → List Tree)
    → (beginning command number (own_of_held input held) ≡ Some number)
    × (d.pieces ≡ first_delta command (own_of_held input held) shows)

-- it has taken the command, and this is told of it
pub record HasTaken (command : Command) (len : ℕ) (old new : Held)
    (done : Option DeltaModel × HeldUndo) : Type 0 where
  pub inside : (input : ℕ) → refused_by (own_of_held input old) command ≡ None
  pub told : IsToldBy command old done.0
  pub kept : contents new ≡ taken command len old
  pub undo : IsUndo done.1 old new

-- what a commit tells of it
abbrev pub told_at : Closed → Option DeltaModel
told_at Inner = None
told_at (Outer d) = Some d

-- ---- a delta of its input

-- what it keeps while it is held
abbrev pub composed_with : Delta → Held → Contents
composed_with d (Transaction t) = of_transaction (followed t.levels d)
composed_with d (Freezable since) = of_freezable (followed_since since d)
