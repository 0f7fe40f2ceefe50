-- The element that stands where a list says that one of its elements stands.
use Rattle.std.specs.Prelude.{⊤, ℕ, List, Option, Some, None, slice_get}
use Rattle.spec_states.specs.Tree.{Tree}
use Rattle.gl_kernels.specs.CollectionStands.{children_at}
use Rattle.gl_graph.specs.declared.spot.Spot.{Spot}
use Rattle.gl_graph.specs.declared.spot.Spot.TheVariants.{Own, Of, Child}

-- by what each number's list shows
abbrev pub spotted : Option Spot → (ℕ → List Tree) → Option Tree
spotted None shows = None
spotted (Some (Own v)) shows = Some v.now
spotted (Some (Of list position)) shows = slice_get (shows list) position
spotted (Some (Child list position model index)) shows =
    slice_get (children_at model.now (shows list) position) index

-- said of the list where it stands, if that is another one
abbrev pub OnSpot : (ℕ → Type 0) → Option Spot → Type 0
OnSpot P None = ⊤
OnSpot P (Some (Own v)) = ⊤
OnSpot P (Some (Of list position)) = P list
OnSpot P (Some (Child list position model index)) = P list
