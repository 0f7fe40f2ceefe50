-- The changes that cells tell.
use Rattle.std.specs.Prelude.{◌+◌, ◌≤◌, ℕ, List, [], ◌∷◌}
use Rattle.spec_lists.specs.Cells.{Cell, keep, update, delete, insert}
use Rattle.spec_lists.specs.Changes.{Change, insertion, delete as delete_at, update as update_at}
use Rattle.gl_delta.specs.Cells.{cells_rest}
use Rattle.gl_event.specs.declared.change.Change.{Change as Told}
use Rattle.gl_event.specs.declared.change.Change.TheVariants as told
use Rattle.gl_event.specs.declared.walk.Walk.{Walk}

-- the change that a reference to its values tells
abbrev pub change_ref : Told → Change
change_ref (told.Delete at old) = delete_at at old.now
change_ref (told.Insert at new) = insertion at new.now
change_ref (told.Update at old new) = update_at at old.now new.now

-- the changes of cells, to whose left so many elements stand
abbrev pub changes_in : ℕ → List Cell → List Change
changes_in at [] = []
changes_in at (keep n ∷ cs) = changes_in (at + n) cs
changes_in at (update v w ∷ cs) = update_at at v w ∷ changes_in (at + 1) cs
changes_in at (delete v ∷ cs) = delete_at at v ∷ changes_in at cs
changes_in at (insert w ∷ cs) = insertion at w ∷ changes_in (at + 1) cs

abbrev pub changes_rest : Walk → List Change
changes_rest w = changes_in w.at (cells_rest w.cells)

-- how many elements of the new list cells have
abbrev pub new_count : List Cell → ℕ
new_count [] = 0
new_count (keep n ∷ cs) = n + new_count cs
new_count (update v w ∷ cs) = 1 + new_count cs
new_count (delete v ∷ cs) = new_count cs
new_count (insert w ∷ cs) = 1 + new_count cs

-- the new list has no more elements than a delta may have
abbrev pub IsFew : Walk → Type 0
IsFew w = w.at + new_count (cells_rest w.cells) ≤ 2147483647
