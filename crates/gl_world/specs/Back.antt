-- The way back of a section, change by change.
use Rattle.std.specs.Prelude.{◌≡◌, List, [], ◌∷◌}
use Rattle.gl_graph.specs.declared.graph.GraphUndo.{GraphUndo}
use Rattle.gl_graph.specs.Graph.{Kept, IsGraph}
use Rattle.gl_graph.specs.Waves.{contents, HaveRoomOf, IsUndo}

-- a graph changed, and this is the undo
pub record IsChanged (undo : GraphUndo) (old new : Kept) : Type 0 where
  pub graph : IsGraph old.limit old.nodes old.positions
  pub is : IsUndo undo old new

-- a graph is what another one is, with no less room
pub record IsLike (old new : Kept) : Type 0 where
  pub same : contents new ≡ contents old
  pub room : HaveRoomOf old.nodes new.nodes

-- one change after another led from the one graph to the other, and these are the undos
abbrev pub Leads : List GraphUndo → Kept → Kept → Type 0
Leads [] start now = IsLike start now
Leads (undo ∷ undos) start now = (next : Kept) × IsChanged undo start next × Leads undos next now

-- the undos lead back to some graph
abbrev pub CanGoBack : List GraphUndo → Kept → Type 0
CanGoBack undos now = (start : Kept) × Leads undos start now

-- wherever undos led back from, the others lead back there too
abbrev pub GoesOn : List GraphUndo → Kept → List GraphUndo → Kept → Type 0
GoesOn old before new now = (start : Kept) → Leads old start before → Leads new start now
