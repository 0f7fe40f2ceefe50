-- The way back in more room.
use Rattle.std.proofs.Common.{◌≡◌, List, refl, ap, arith}
use Rattle.spec_sorting.specs.Tree.{Tree}
use Rattle.gl_barcode.specs.Bars.{stretch_count}
use Rattle.gl_kernel.proofs.Play.{can_play_more}
use Rattle.gl_arranged.proofs.Rooms as arranged
use Rattle.gl_arranged.specs.Stands.{Contents as Arranged}
use Rattle.gl_classes.specs.declared.classes.ClassesUndo.{ClassesUndo}
use Rattle.gl_classes.specs.declared.classes.ClassesUndo.TheVariants.{Edits, Whole}
use Rattle.gl_classes.specs.Kept.{Kept}
use Rattle.gl_classes.specs.Stands.{Contents, Rooms, StandsFor, AreNoMore, before, rooms_back, CanRetreat}

-- the classes that have these contents and so much room
abbrev pub with_rooms : Rooms → Contents → Kept
with_rooms rooms c = record {
  list = arranged.with_room rooms.list c.list;
  firsts = record { shown = c.firsts; room = rooms.firsts };
}

-- in any room they stand for the same
pub stands_same : (less more : Rooms) (c : Contents) (xs : List Tree) → StandsFor (with_rooms less c) xs
    → StandsFor (with_rooms more c) xs
stands_same less more c xs h = record {
  list = record { places = h.list.places; marks = h.list.marks };
  firsts = h.firsts;
}

-- an undo makes the same of them in any room
pub before_same : (undo : ClassesUndo) (less more : Rooms) (c : Contents)
    → before undo (with_rooms less c) ≡ before undo (with_rooms more c)
before_same (Edits list log) less more c =
    ap (λ (l : Arranged). record { list = l; firsts = (before (Edits list log) (with_rooms more c)).firsts })
    (arranged.before_same list less.list more.list c.list)
before_same (Whole whole) less more c = refl

-- what can go back can do so in more room
pub retreats_in_more : (undo : ClassesUndo) (less more : Rooms) (c : Contents) → AreNoMore less more
    → CanRetreat undo (with_rooms less c) → CanRetreat undo (with_rooms more c)
retreats_in_more (Edits list log) less more c h can = (
  arranged.retreats_in_more list less.list more.list c.list h.list can.0,
  can_play_more stretch_count less.firsts more.firsts log.items c.firsts h.firsts can.1,
)
retreats_in_more (Whole whole) less more c h can = tt

-- and then has no less
pub rooms_in_more : (undo : ClassesUndo) (less more : Rooms) (c : Contents) → AreNoMore less more
    → AreNoMore (rooms_back undo (with_rooms less c)) (rooms_back undo (with_rooms more c))
rooms_in_more (Edits list log) less more c h = record {
  list = arranged.room_in_more list less.list more.list c.list h.list;
  firsts = h.firsts;
}
rooms_in_more (Whole whole) less more c h = record { list = omega arith; firsts = omega arith }
