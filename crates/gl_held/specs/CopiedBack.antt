-- What the undo of a pump gives back.
use Rattle.std.specs.Prelude.{◌≡◌, ◌<◌, ◌≤◌, ⊤, ℕ, List, [], ◌∷◌, length}
use Rattle.spec_states.specs.Tree.{Tree}
use Rattle.spec_lists.specs.Delta.{Delta}
use Rattle.spec_states.specs.Laws.{LeadOnFrom}
use Rattle.gl_source.specs.Kept.{Kept as SourceKept}
use Rattle.gl_source.specs.Stands.{before as source_before, CanRetreat as CanRetreatSource}
use Rattle.gl_held.specs.Copied.{Copied}
use Rattle.gl_held.specs.declared.undo.HeldUndo.{HeldUndo}
use Rattle.gl_held.specs.declared.undo.Way.{Way}
use Rattle.gl_held.specs.declared.undo.Way.TheVariants.{Pumped}

-- the proxy's elements as a list that is edited
abbrev pub source_of : Copied → SourceKept
source_of k = record { values = k.values; limit = 2147483647; room = k.room }

-- the elements that were shown, and what was yet to take
abbrev pub values_before : Way → Copied → List Tree
values_before (Pumped d undo) k = source_before undo (source_of k)
values_before other k = k.values

abbrev pub queue_before : Way → List Delta → List Delta
queue_before (Pumped d undo) queue = d.pieces ∷ queue
queue_before other queue = queue

abbrev pub HasWayBack : Way → Copied → Type 0
HasWayBack (Pumped d undo) k = CanRetreatSource undo (source_of k)
HasWayBack other k = ⊥

-- the way back leads to a copy with its queue, in the room that there is
pub record CanRetreatCopy (undo : HeldUndo) (k : Copied) : Type 0 where
  pub has : HasWayBack undo.way k
  pub leads : LeadOnFrom (queue_before undo.way k.queue) (values_before undo.way k)
  pub room : length k.queue < k.queue_room

-- the undo is of the proxy's last pump: it leads back to what there was, and can be gone
pub record IsUndoCopy (undo : HeldUndo) (old new : Copied) : Type 0 where
  pub values : values_before undo.way new ≡ old.values
  pub queue : queue_before undo.way new.queue ≡ old.queue
  pub can : CanRetreatCopy undo new
