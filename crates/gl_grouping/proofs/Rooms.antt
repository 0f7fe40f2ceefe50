-- The way back in more room.
use Rattle.std.proofs.Common.{◌≡◌, ℕ, length, List, refl, ap, arith}
use Rattle.spec_sorting.specs.Tree.{Tree}
use Rattle.gl_kernel.specs.Edits.{played}
use Rattle.gl_kernel.proofs.Play.{can_play_more}
use Rattle.gl_classes.proofs.Rooms as classes
use Rattle.gl_classes.specs.Stands as classes_stands
use Rattle.gl_grouping.specs.declared.grouping.GroupingUndo.{GroupingUndo}
use Rattle.gl_grouping.specs.declared.grouping.GroupingUndo.TheVariants.{Edits, Whole}
use Rattle.gl_grouping.specs.Kept.{Kept}
use Rattle.gl_grouping.specs.Stands.{Contents, Rooms, StandsFor, AreNoMore, before, rooms_back, CanRetreat}

-- the grouping that has these contents and so much room
abbrev pub with_rooms : Rooms → Contents → Kept
with_rooms rooms c = record {
  classes = classes.with_rooms rooms.classes c.classes;
  groups = record { values = c.groups; room = rooms.groups };
}

-- in any room it stands for the same
pub stands_same : (less more : Rooms) (c : Contents) (xs : List Tree) → StandsFor (with_rooms less c) xs
    → StandsFor (with_rooms more c) xs
stands_same less more c xs h = record {
  classes = classes.stands_same less.classes more.classes c.classes xs h.classes;
  groups = h.groups;
}

-- an undo makes the same of it in any room
pub before_same : (undo : GroupingUndo) (less more : Rooms) (c : Contents)
    → before undo (with_rooms less c) ≡ before undo (with_rooms more c)
before_same (Edits undo log) less more c =
    ap (λ (k : classes_stands.Contents). record { classes = k; groups = played log.items c.groups })
    (classes.before_same undo less.classes more.classes c.classes)
before_same (Whole whole) less more c = refl

-- what can go back can do so in more room
pub retreats_in_more : (undo : GroupingUndo) (less more : Rooms) (c : Contents) → AreNoMore less more
    → CanRetreat undo (with_rooms less c) → CanRetreat undo (with_rooms more c)
retreats_in_more (Edits undo log) less more c h can = (
  classes.retreats_in_more undo less.classes more.classes c.classes h.classes can.0,
  can_play_more length less.groups more.groups log.items c.groups h.groups can.1,
)
retreats_in_more (Whole whole) less more c h can = tt

-- and then has no less
pub rooms_in_more : (undo : GroupingUndo) (less more : Rooms) (c : Contents) → AreNoMore less more
    → AreNoMore (rooms_back undo (with_rooms less c)) (rooms_back undo (with_rooms more c))
rooms_in_more (Edits undo log) less more c h = record {
  classes = classes.rooms_in_more undo less.classes more.classes c.classes h.classes;
  groups = h.groups;
}
rooms_in_more (Whole whole) less more c h =
    record { classes = record { list = omega arith; firsts = omega arith }; groups = omega arith }
