-- What the classes of a list stand for, and what their undos give back.
use Rattle.std.specs.Prelude.{◌≡◌, ◌≤◌, ⊤, ℕ, Bool, not, List, map}
use Rattle.spec_sorting.specs.Tree.{Tree}
use Rattle.gl_barcode.specs.Bars.{stretch_count}
use Rattle.gl_kernel.specs.Edits.{played, CanPlay}
use Rattle.gl_arranged.specs.Stands as arranged
use Rattle.gl_classes.specs.declared.classes.ClassesUndo.{ClassesUndo}
use Rattle.gl_classes.specs.declared.classes.ClassesUndo.TheVariants.{Edits, Whole}
use Rattle.gl_classes.specs.Kept.{Kept}

-- they are the classes of a list by their order
pub record StandsFor (k : Kept) (xs : List Tree) : Type 0 where
  pub list : arranged.StandsFor k.list xs
  pub firsts : k.firsts.shown ≡ map not k.list.tree.marks

-- what they are, whatever their room
pub record Contents : Type 0 where
  pub list : arranged.Contents
  pub firsts : List Bool

abbrev pub contents : Kept → Contents
contents k = record { list = arranged.contents k.list; firsts = k.firsts.shown }

-- what an undo makes of them
abbrev pub before : ClassesUndo → Kept → Contents
before (Edits list log) k = record {
  list = arranged.contents (arranged.before list k.list);
  firsts = played log.items k.firsts.shown;
}
before (Whole whole) k = contents whole

-- there is what the way back needs
abbrev pub CanRetreat : ClassesUndo → Kept → Type 0
CanRetreat (Edits list log) k =
    arranged.CanRetreat list k.list
    × CanPlay stretch_count k.firsts.room log.items k.firsts.shown
CanRetreat (Whole whole) k = ⊤

-- how much there is room for
pub record Rooms : Type 0 where
  pub list : ℕ
  pub firsts : ℕ

abbrev pub rooms : Kept → Rooms
rooms k = record { list = k.list.tree.room; firsts = k.firsts.room }

-- the one is no more than the other
pub record AreNoMore (less more : Rooms) : Type 0 where
  pub list : less.list ≤ more.list
  pub firsts : less.firsts ≤ more.firsts

-- how much there is room for once an undo was taken
abbrev pub rooms_back : ClassesUndo → Kept → Rooms
rooms_back (Edits list log) k = record {
  list = (arranged.before list k.list).tree.room;
  firsts = k.firsts.room;
}
rooms_back (Whole whole) k = rooms whole

-- the undo is of the last change: it leads back to what there was, in no less room, and can be made
pub record IsUndo (undo : ClassesUndo) (old new : Kept) : Type 0 where
  pub back : before undo new ≡ contents old
  pub rooms : AreNoMore (rooms old) (rooms_back undo new)
  pub can : CanRetreat undo new
