-- One list that goes back.
use Rattle.std.specs.Prelude.{◌≡◌, ℕ, List, length, slice_get, Option, Some}
use Rattle.gl_graph.specs.declared.node.Node.{Node}
use Rattle.gl_graph.specs.declared.keeps.KeepsUndo.{KeepsUndo}
use Rattle.gl_graph.specs.Room.{IsNoMore}
use Rattle.gl_graph.specs.Undos as keeps
use Rattle.gl_graph.specs.Waves.{before_one, room_one, CanGoBack}

-- the node at a place, if there is one, can go back
abbrev pub CanGoBackAt : Option KeepsUndo → ℕ → List Node → Type 0
CanGoBackAt undo position nodes =
    (node : Node) → slice_get nodes position ≡ Some node → CanGoBack undo node.keeps

-- the node is what an undo makes of it, and has no less room than that leaves
pub record IsOneBack (undo : Option KeepsUndo) (old new : Node) : Type 0 where
  pub list_is : new.list ≡ old.list
  pub keeps_is : keeps.contents new.keeps ≡ before_one undo old.keeps
  pub room : IsNoMore (room_one undo old.keeps) (keeps.room_of new.keeps)

-- the node at a place, if there is one, has gone back, and the others are as before
pub record IsBackAt (undo : Option KeepsUndo) (position : ℕ) (old new : List Node) : Type 0 where
  pub long : length new ≡ length old
  pub others : (p : ℕ) → ¬ (p ≡ position) → slice_get new p ≡ slice_get old p
  pub this : (a b : Node) → slice_get old position ≡ Some a → slice_get new position ≡ Some b
      → IsOneBack undo a b
