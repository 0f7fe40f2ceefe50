-- What the undos of a source give back.
use Rattle.std.specs.Prelude.{◌≡◌, ◌≤◌, List, length}
use Rattle.spec_value.specs.Tree.{Tree}
use Rattle.gl_kernel.specs.Edits.{played, CanPlay}
use Rattle.gl_source.specs.Kept.{Kept}
use Rattle.gl_source.specs.declared.source.SourceUndo.{SourceUndo}

-- the elements that an undo leaves
abbrev pub before : SourceUndo → Kept → List Tree
before undo k = played undo.log.items k.values

-- the way back stays within the limit, and in the room that there is
pub record CanRetreat (undo : SourceUndo) (k : Kept) : Type 0 where
  pub within : length (before undo k) ≤ k.limit
  pub can : CanPlay length k.room undo.log.items k.values

-- the undo is of the source's last change: it leads back to the elements that there were, and can be made
pub record IsUndo (undo : SourceUndo) (old new : Kept) : Type 0 where
  pub back : before undo new ≡ old.values
  pub can : CanRetreat undo new
