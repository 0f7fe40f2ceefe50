-- What the undos of held lists give back.
use Rattle.std.specs.Prelude.{◌≡◌, ◌<◌, ◌≤◌, ⊤, ℕ, List, [], ◌∷◌, length, drop, Option, Some, None}
use Rattle.spec_lists.specs.Delta.{Delta}
use Rattle.gl_held.specs.Levels.{AreJoined}
use Rattle.gl_held.specs.Kept.{Kept}
use Rattle.gl_held.specs.declared.undo.HeldUndo.{HeldUndo}
use Rattle.gl_held.specs.declared.undo.Way.{Way}
use Rattle.gl_held.specs.declared.undo.Way.TheVariants.{Levels, Since}
use Rattle.gl_held.specs.declared.undo.LevelStep.{LevelStep}
use Rattle.gl_held.specs.declared.undo.LevelStep.TheVariants.{Begun, Followed, Joined, Closed}

-- ---- a transaction

-- the levels that a step back leaves
abbrev pub stepped : LevelStep → List Delta → List Delta
stepped Begun levels = drop 1 levels
stepped (Followed level) levels = level ∷ drop 1 levels
stepped (Joined outer level) levels = level ∷ outer ∷ drop 1 levels
stepped (Closed level) levels = level ∷ levels

-- the level that a step takes out is there
abbrev pub HasLevel : LevelStep → List Delta → Type 0
HasLevel Begun levels = 0 < length levels
HasLevel (Followed level) levels = 0 < length levels
HasLevel (Joined outer level) levels = 0 < length levels
HasLevel (Closed level) levels = ⊤

abbrev pub levels_before : Way → List Delta → List Delta
levels_before (Levels step) levels = stepped step levels
levels_before other levels = levels

abbrev pub HasWay : Way → List Delta → Type 0
HasWay (Levels step) levels = HasLevel step levels
HasWay other levels = ⊥

-- the way back leads to levels of a transaction, in the room that there is
pub record CanRetreat (undo : HeldUndo) (k : Kept) : Type 0 where
  pub has : HasWay undo.way k.levels
  pub joined : AreJoined (levels_before undo.way k.levels)
  pub room : length (levels_before undo.way k.levels) ≤ k.room

-- the undo is of the transaction's last change: it leads back to the levels that there were, and can be gone
pub record IsUndo (undo : HeldUndo) (old new : Kept) : Type 0 where
  pub back : levels_before undo.way new.levels ≡ old.levels
  pub can : CanRetreat undo new

-- ---- a freezable list

-- what a freezable list kept
abbrev pub since_before : Way → Option Delta → Option Delta
since_before (Since kept) since = kept
since_before other since = since

abbrev pub IsOfFreezable : Way → Type 0
IsOfFreezable (Since kept) = ⊤
IsOfFreezable other = ⊥

-- the undo is of the freezable list's last change: it leads back to what it kept
pub record IsUndoSince (undo : HeldUndo) (old new : Option Delta) : Type 0 where
  pub back : since_before undo.way new ≡ old
  pub can : IsOfFreezable undo.way
