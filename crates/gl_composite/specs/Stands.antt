-- What a composite stands for, and what its undos give back.
use Rattle.std.specs.Prelude.{◌≡◌, ◌<◌, ◌≤◌, ℕ, List, length, map, insert, remove, Option, Some, None, slice_get, slice_index_or}
use Rattle.gl_joined.specs.Tree.{Tree}
use Rattle.gl_kernel.specs.Edits.{played, CanPlay, Fits}
use Rattle.gl_kernel.specs.Results.{LeadsBack}
use Rattle.gl_composite.specs.Kept.{Kept, IsWithin}
use Rattle.gl_composite.specs.declared.composite.CompositeUndo.{CompositeUndo}
use Rattle.gl_composite.specs.declared.composite.Step.{Step}
use Rattle.gl_composite.specs.declared.composite.Step.TheVariants.{Attached, Detached, Advanced}

-- the composite stands for what the lists show: it keeps how many elements each member has
abbrev pub StandsFor : Kept → (ℕ → List Tree) → Type 0
StandsFor k shows = k.lens ≡ map (λ list. length (shows list)) k.lists

-- the list that a member is
abbrev pub list_at : List ℕ → ℕ → ℕ
list_at lists index = slice_index_or lists index 0

-- the element that stands where a position was found: in the member at an index, at a position of it
abbrev pub found_in : List ℕ → (ℕ → List Tree) → Option (ℕ × ℕ) → Option Tree
found_in lists shows None = None
found_in lists shows (Some at) = slice_get (shows (list_at lists at.0)) at.1

-- what a composite is, whatever its room
pub record Contents : Type 0 where
  pub limit : ℕ
  pub lists : List ℕ
  pub lens : List ℕ

abbrev pub contents : Kept → Contents
contents k = record { limit = k.limit; lists = k.lists; lens = k.lens }

-- what a step back makes of a composite
abbrev pub stepped : Step → Kept → Contents
stepped (Attached at) k =
    record { limit = k.limit; lists = remove k.lists at; lens = remove k.lens at }
stepped (Detached at list len) k =
    record { limit = k.limit; lists = insert k.lists at list; lens = insert k.lens at len }
stepped (Advanced log) k =
    record { limit = k.limit; lists = k.lists; lens = played log.items k.lens }

-- it finds its positions, and the room that it takes
abbrev pub CanStep : Step → Kept → Type 0
CanStep (Attached at) k = at < length k.lists
CanStep (Detached at list len) k =
    (at ≤ length k.lists) × (length k.lists < k.list_room)
    × Fits length k.room (insert k.lens at len)
CanStep (Advanced log) k = CanPlay length k.room log.items k.lens

abbrev pub before : CompositeUndo → Kept → Contents
before undo k = stepped undo.step k

-- the way back leads to a composite, and can be gone
pub record CanRetreat (undo : CompositeUndo) (k : Kept) : Type 0 where
  pub within : IsWithin (before undo k).limit (before undo k).lists (before undo k).lens
  pub can : CanStep undo.step k

-- the undo is of the composite's last change
abbrev pub IsUndo : CompositeUndo → Kept → Kept → Type 0
IsUndo undo old new = LeadsBack (before undo new) (contents old) (CanRetreat undo new)
