-- What becomes of a composite whose members change.
use Rattle.std.specs.Prelude.{◌≡◌, ◌<◌, ⊤, ℕ, List, [], length, slice_index_or, Option, Some, None}
use Rattle.std.specs.List.{All, Contains}
use Rattle.spec_states.specs.Tree.{Tree}
use Rattle.spec_states.specs.Composite.{composite_view}
use Rattle.spec_states.specs.Command.{Command}
use Rattle.spec_states.specs.Command.TheVariants as c
use Rattle.spec_states.specs.Reply.TheVariants as reply
use Rattle.spec_states.specs.State.{composite}
use Rattle.spec_states.specs.Wave.{members_change, members_after}
use Rattle.spec_states.specs.Step.{refused_by}
use Rattle.gl_source.specs.Model.{DeltaModel}
use Rattle.gl_composite.specs.Kept.{Kept}
use Rattle.gl_composite.specs.Stands.{StandsFor, IsUndo}
use Rattle.gl_composite.specs.declared.composite.CompositeUndo.{CompositeUndo}
use Rattle.gl_graph.specs.declared.graph.Refused.{Refused}
use Rattle.gl_graph.specs.declared.graph.Refused.TheVariants.{OutOfRange, TooLong, Memory}

-- something is told of one of these lists
pub record IsAnyTold (deltas : List (Option DeltaModel)) (lists : List ℕ) : Type 0 where
  pub list : ℕ
  pub among : Contains lists list
  pub d : DeltaModel
  pub told : slice_index_or deltas list None ≡ Some d

-- said of the member that a command attaches, or of those of which it detaches one
abbrev pub AreMembers : (ℕ → Type 0) → Command → List ℕ → Type 0
AreMembers P (c.Attach list member) members = P member
AreMembers P (c.Detach list index) members = All P members
AreMembers P other members = ⊥

-- the composite has its members as the command says, and this is told of it
pub record IsRegrouped (shows : ℕ → List Tree) (c : Command) (old new : Kept)
    (done : DeltaModel × CompositeUndo) : Type 0 where
  pub inside : refused_by (composite [] old.lists) c ≡ None
  pub told : done.0.pieces ≡ members_change c old.lists shows
  pub stands : StandsFor new shows
  pub lists : new.lists ≡ members_after c old.lists
  pub limit : new.limit ≡ old.limit
  pub undo : IsUndo done.1 old new

-- it would show so many elements, which are more than it may
pub record IsRegroupedLong (shows : ℕ → List Tree) (c : Command) (old : Kept) (len : ℕ) : Type 0
  where
    pub inside : refused_by (composite [] old.lists) c ≡ None
    pub past : old.limit < len
    pub len_is : len ≡ length (composite_view (members_after c old.lists) shows)

-- why the members of the composite of a number stay
abbrev pub IsRegroupStopped : (ℕ → List Tree) → Command → ℕ → Kept → Refused → Type 0
IsRegroupStopped shows c list old (OutOfRange index len) =
    refused_by (composite [] old.lists) c ≡ Some (reply.OutOfRange index len)
IsRegroupStopped shows c list old (TooLong number len) =
    (number ≡ list) × IsRegroupedLong shows c old len
IsRegroupStopped shows c list old Memory = ⊤
IsRegroupStopped shows c list old other = ⊥
