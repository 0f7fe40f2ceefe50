-- What a list over one input keeps in a graph: the one file that goes by its kind.
use Rattle.std.specs.Prelude.{◌≡◌, ◌≤◌, ◌<◌, ◌+◌, ◌*◌, ◌^◌, ⊤, ℕ, List, length, Option, Some, None}
use Rattle.spec_states.specs.Tree.{Tree}
use Rattle.spec_states.specs.Delta.{Delta}
use Rattle.spec_states.specs.Piece.{old_len}
use Rattle.spec_states.specs.Kind.{kind}
use Rattle.spec_states.specs.View.{View, filter, sorted, unique, grouping, range, function, collection, view_of, Parameter, matcher, order}
use Rattle.gl_kernels.specs.Stands as filter_stands
use Rattle.gl_kernels.specs.Told.{asked, change_cost}
use Rattle.gl_kernels.specs.SortedStands as sorted_stands
use Rattle.gl_kernels.specs.SortedChanges.{fresh_len}
use Rattle.gl_kernels.specs.UniqueStands as unique_stands
use Rattle.gl_kernels.specs.GroupingStands as grouping_stands
use Rattle.gl_kernels.specs.Kept as range_kept
use Rattle.gl_kernels.specs.RangeStands as range_stands
use Rattle.gl_kernels.specs.FunctionStands as function_stands
use Rattle.gl_kernels.specs.CollectionStands as collection_stands
use Rattle.gl_kernels.specs.KernelFault.{KernelFault}
use Rattle.gl_kernels.specs.KernelFault.TheVariants.{TooLong, Memory}
use Rattle.gl_graph.specs.Room.{Room, room, sorted_room, classes_room, IsNoMore}
use Rattle.gl_graph.specs.declared.derived.Derived.{Derived}
use Rattle.gl_graph.specs.declared.derived.Derived.TheVariants.{Filter, Sorted, Unique, Grouping, Range, Function, Collection}
use Rattle.gl_graph.specs.declared.derived.DerivedUndo.{DerivedUndo}
use Rattle.gl_graph.specs.declared.derived.DerivedUndo.TheVariants as u

-- its kind and its present parameter
abbrev pub view_of_derived : Derived → View
view_of_derived (Filter k) = filter k.matcher
view_of_derived (Sorted k) = sorted k.order
view_of_derived (Unique k) = unique k.list.order
view_of_derived (Grouping k) = grouping k.classes.list.order
view_of_derived (Range k) = range k.bounds
view_of_derived (Function k) = function k.func
view_of_derived (Collection k) = collection k.kids

-- it stands for these elements of its input
abbrev pub StandsFor : Derived → List Tree → Type 0
StandsFor (Filter k) xs = filter_stands.StandsFor k xs
StandsFor (Sorted k) xs = sorted_stands.StandsFor k xs
StandsFor (Unique k) xs = unique_stands.StandsFor k xs
StandsFor (Grouping k) xs = grouping_stands.StandsFor k xs
StandsFor (Range k) xs = range_stands.StandsFor k xs
StandsFor (Function k) xs = function_stands.StandsFor k xs
StandsFor (Collection k) xs = collection_stands.StandsFor k xs

-- what it is, whatever its room
pub data Contents : Type 0 where
  of_filter : filter_stands.Contents → Contents
  of_sorted : sorted_stands.Contents → Contents
  of_unique : unique_stands.Contents → Contents
  of_grouping : grouping_stands.Contents → Contents
  of_range : range_kept.Kept → Contents
  of_function : function_stands.Contents → Contents
  of_collection : collection_stands.Contents → Contents

abbrev pub contents : Derived → Contents
contents (Filter k) = of_filter (filter_stands.contents k)
contents (Sorted k) = of_sorted (sorted_stands.contents k)
contents (Unique k) = of_unique (unique_stands.contents k)
contents (Grouping k) = of_grouping (grouping_stands.contents k)
contents (Range k) = of_range k
contents (Function k) = of_function (function_stands.contents k)
contents (Collection k) = of_collection (collection_stands.contents k)

-- how much it has room for
abbrev pub room_of : Derived → Room
room_of (Filter k) = room k.room
room_of (Sorted k) = sorted_room k.tree.room
room_of (Unique k) = classes_room 0 k.list.tree.room k.firsts.room
room_of (Grouping k) =
    classes_room k.groups.room k.classes.list.tree.room k.classes.firsts.room
room_of (Range k) = room 0
room_of (Function k) = room k.room
room_of (Collection k) = room k.room

-- how many elements it may show, if it goes by that
abbrev pub limit_of : Derived → Option ℕ
limit_of (Collection k) = Some k.limit
limit_of other = None

-- what an undo makes of it; one of another kind makes nothing of it
abbrev pub before : DerivedUndo → Derived → Contents
before (u.Filter undo) (Filter k) = of_filter (filter_stands.before undo k)
before (u.Sorted undo) (Sorted k) = of_sorted (sorted_stands.contents (sorted_stands.before undo k))
before (u.Unique undo) (Unique k) = of_unique (unique_stands.before undo k)
before (u.Grouping undo) (Grouping k) = of_grouping (grouping_stands.before undo k)
before (u.Range undo) (Range k) = of_range (range_stands.before undo)
before (u.Function undo) (Function k) = of_function (function_stands.before undo k)
before (u.Collection undo) (Collection k) = of_collection (collection_stands.before undo k)
before undo derived = contents derived

-- the undo is of its kind, and it has what the way back needs
abbrev pub CanRetreat : DerivedUndo → Derived → Type 0
CanRetreat (u.Filter undo) (Filter k) = filter_stands.CanRetreat undo k
CanRetreat (u.Sorted undo) (Sorted k) = sorted_stands.CanRetreat undo k
CanRetreat (u.Unique undo) (Unique k) = unique_stands.CanRetreat undo k
CanRetreat (u.Grouping undo) (Grouping k) = grouping_stands.CanRetreat undo k
CanRetreat (u.Range undo) (Range k) = ⊤
CanRetreat (u.Function undo) (Function k) = function_stands.CanRetreat undo k
CanRetreat (u.Collection undo) (Collection k) = collection_stands.CanRetreat undo k
CanRetreat undo derived = ⊥

-- how much it has room for once an undo was taken; what is put back whole has a room of its own
abbrev pub room_back : DerivedUndo → Derived → Room
room_back (u.Sorted undo) (Sorted k) = sorted_room (sorted_stands.before undo k).tree.room
room_back (u.Unique undo) (Unique k) =
    classes_room 0 (unique_stands.rooms_back undo k).list (unique_stands.rooms_back undo k).firsts
room_back (u.Grouping undo) (Grouping k) =
    classes_room (grouping_stands.rooms_back undo k).groups (grouping_stands.rooms_back undo k).classes.list (grouping_stands.rooms_back undo k).classes.firsts
room_back undo derived = room_of derived

-- the undo is of its last change: it leads back to what it was, in no less room, and can be made
pub record IsUndo (undo : DerivedUndo) (old new : Derived) : Type 0 where
  pub back : before undo new ≡ contents old
  pub room : IsNoMore (room_of old) (room_back undo new)
  pub can : CanRetreat undo new

-- at most four times the binary digits of a length, and four times more, for each of so many elements
abbrev pub IsSearched : ℕ → ℕ → ℕ → ℕ → Type 0
IsSearched len fresh old new =
    (digits : ℕ) → len < 2 ^ digits → new ≤ old + fresh * (4 * (digits + 1))

-- the same, where the length was another one before
abbrev pub IsSearchedInBoth : ℕ → ℕ → ℕ → ℕ → ℕ → Type 0
IsSearchedInBoth len before fresh old new =
    (digits : ℕ) → len < 2 ^ digits → before < 2 ^ digits → new ≤ old + fresh * (4 * (digits + 1))

-- how often a matcher was asked and keys were compared while the list followed a delta to an input of so many elements,
-- by the counts before and after
abbrev pub AsksOf : Derived → Delta → ℕ → ℕ → ℕ → Type 0
AsksOf (Filter k) d len old new = new ≤ old + asked d
AsksOf (Sorted k) d len old new = IsSearched len (fresh_len d) old new
AsksOf (Unique k) d len old new = IsSearchedInBoth len (old_len d) (fresh_len d) old new
AsksOf (Grouping k) d len old new = IsSearchedInBoth len (old_len d) (fresh_len d) old new
AsksOf (Range k) d len old new = new ≡ old
AsksOf (Function k) d len old new = new ≡ old
AsksOf (Collection k) d len old new = new ≡ old

-- and while it took another parameter, over so many elements
abbrev pub AsksFor : Derived → Parameter → ℕ → ℕ → ℕ → Type 0
AsksFor (Filter k) (matcher m) len old new = new ≤ old + change_cost (kind k.matcher m) k.shown
AsksFor (Sorted k) (order keys) len old new = IsSearched len len old new
AsksFor (Unique k) (order keys) len old new = IsSearched len len old new
AsksFor (Grouping k) (order keys) len old new = IsSearched len len old new
AsksFor derived given len old new = new ≡ old

-- why it doesn't follow to an input of these elements: it would show so many, which are more than it may
abbrev pub IsOver : Derived → List Tree → KernelFault → Type 0
IsOver (Collection k) xs (TooLong len) =
    (k.limit < len) × (len ≡ length (view_of (collection k.kids) xs))
IsOver derived xs (TooLong len) = ⊥
IsOver derived xs Memory = ⊤
