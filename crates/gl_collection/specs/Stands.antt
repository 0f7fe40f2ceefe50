-- What a collection stands for, and what its undos give back.
use Rattle.std.specs.Prelude.{ℕ, List, length}
use Rattle.gl_joined.specs.Tree.{Tree}
use Rattle.spec_lang.specs.Kids.{kids}
use Rattle.spec_views.specs.Source.{element_at}
use Rattle.gl_kernel.specs.Edits.{played, CanPlay}
use Rattle.gl_kernel.specs.Results.{AreResults, LeadsBack}
use Rattle.gl_collection.specs.Kept.{Kept, IsWithin}
use Rattle.gl_collection.specs.Told.{child_len}
use Rattle.gl_collection.specs.declared.collection.CollectionUndo.{CollectionUndo}

-- the collection stands for an input: it keeps how many children each of its elements has
abbrev pub StandsFor : Kept → List Tree → Type 0
StandsFor k xs = AreResults (child_len (kids k.kids)) k.lens xs

-- the children of the element at a position of the input
abbrev pub children_at : List ℕ → List Tree → ℕ → List Tree
children_at path xs i = kids path (element_at xs i)

-- what a collection is, whatever its room
pub record Contents : Type 0 where
  pub kids : List ℕ
  pub limit : ℕ
  pub lens : List ℕ

abbrev pub contents : Kept → Contents
contents k = record { kids = k.kids; limit = k.limit; lens = k.lens }

-- what an undo makes of a collection
abbrev pub before : CollectionUndo → Kept → Contents
before undo k = record { kids = k.kids; limit = k.limit; lens = played undo.log.items k.lens }

-- the way back stays within the limit, and in the room that there is
pub record CanRetreat (undo : CollectionUndo) (k : Kept) : Type 0 where
  pub within : IsWithin k.limit (played undo.log.items k.lens)
  pub can : CanPlay length k.room undo.log.items k.lens

-- the undo is of the collection's last change
abbrev pub IsUndo : CollectionUndo → Kept → Kept → Type 0
IsUndo undo old new = LeadsBack (before undo new) (contents old) (CanRetreat undo new)
