-- What a grouping stands for, and what its undos give back.
use Rattle.std.specs.Prelude.{◌≡◌, ◌≤◌, ⊤, ℕ, List, length}
use Rattle.spec_sorting.specs.Tree.{Tree}
use Rattle.spec_classes.specs.Grouping.{grouping_view}
use Rattle.gl_kernel.specs.Edits.{played, CanPlay}
use Rattle.gl_classes.specs.Sorting.{order_cmp}
use Rattle.gl_classes.specs.Stands as of_classes
use Rattle.gl_grouping.specs.declared.grouping.GroupingUndo.{GroupingUndo}
use Rattle.gl_grouping.specs.declared.grouping.GroupingUndo.TheVariants.{Edits, Whole}
use Rattle.gl_grouping.specs.Kept.{Kept}

-- it keeps the classes of a list by their order, and their groups
pub record StandsFor (k : Kept) (xs : List Tree) : Type 0 where
  pub classes : of_classes.StandsFor k.classes xs
  pub groups : k.groups.values ≡ grouping_view (order_cmp k.classes.list.order) xs

-- what a grouping is, whatever its room
pub record Contents : Type 0 where
  pub classes : of_classes.Contents
  pub groups : List Tree

abbrev pub contents : Kept → Contents
contents k = record { classes = of_classes.contents k.classes; groups = k.groups.values }

-- what an undo makes of a grouping
abbrev pub before : GroupingUndo → Kept → Contents
before (Edits classes log) k = record {
  classes = of_classes.before classes k.classes;
  groups = played log.items k.groups.values;
}
before (Whole whole) k = contents whole

-- there is what the way back needs
abbrev pub CanRetreat : GroupingUndo → Kept → Type 0
CanRetreat (Edits classes log) k =
    of_classes.CanRetreat classes k.classes × CanPlay length k.groups.room log.items k.groups.values
CanRetreat (Whole whole) k = ⊤

-- how much there is room for
pub record Rooms : Type 0 where
  pub classes : of_classes.Rooms
  pub groups : ℕ

abbrev pub rooms : Kept → Rooms
rooms k = record { classes = of_classes.rooms k.classes; groups = k.groups.room }

-- the one is no more than the other
pub record AreNoMore (less more : Rooms) : Type 0 where
  pub classes : of_classes.AreNoMore less.classes more.classes
  pub groups : less.groups ≤ more.groups

-- how much there is room for once an undo was taken
abbrev pub rooms_back : GroupingUndo → Kept → Rooms
rooms_back (Edits classes log) k = record {
  classes = of_classes.rooms_back classes k.classes;
  groups = k.groups.room;
}
rooms_back (Whole whole) k = rooms whole

-- the undo is of the last change: it leads back to what there was, in no less room, and can be made
pub record IsUndo (undo : GroupingUndo) (old new : Kept) : Type 0 where
  pub back : before undo new ≡ contents old
  pub rooms : AreNoMore (rooms old) (rooms_back undo new)
  pub can : CanRetreat undo new
