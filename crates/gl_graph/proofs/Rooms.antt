-- What is said of a list whatever its room, and the way back in more room.
use Rattle.std.proofs.Common.{◌≡◌, ◌∙◌, ℕ, ◌≤◌, List, refl, ap, sym, subst, arith}
use Rattle.spec_states.specs.Tree.{Tree}
use Rattle.gl_source.proofs.Play.{can_play_more}
use Rattle.gl_kernels.proofs.SortedRooms as sorted
use Rattle.gl_kernels.specs.UniqueStands.{Rooms, AreNoMore}
use Rattle.gl_kernels.specs.GroupingStands as grouped
use Rattle.gl_kernels.proofs.UniqueRooms as unique
use Rattle.gl_kernels.proofs.GroupingRooms as grouping
use Rattle.std.proofs.lemmas.List.Elements.{All-weaker}
use Rattle.gl_composite.specs.Stands as composite_stands
use Rattle.gl_composite.specs.Kept as composite_kept
use Rattle.gl_composite.specs.declared.composite.Step.{Step}
use Rattle.gl_composite.specs.declared.composite.Step.TheVariants.{Attached, Detached, Advanced}
use Rattle.gl_graph.specs.declared.derived.Derived.{Derived}
use Rattle.gl_graph.specs.declared.derived.Derived.TheVariants as d
use Rattle.gl_graph.specs.declared.derived.DerivedUndo.{DerivedUndo}
use Rattle.gl_graph.specs.declared.derived.DerivedUndo.TheVariants as du
use Rattle.gl_graph.specs.declared.keeps.Keeps.{Keeps}
use Rattle.gl_graph.specs.declared.keeps.Keeps.TheVariants.{Source, Over, Composite, Held, Proxy}
use Rattle.gl_graph.specs.declared.held.Held.{Held as HeldList}
use Rattle.gl_graph.specs.declared.held.Held.TheVariants as h
use Rattle.gl_graph.specs.Held as held
use Rattle.gl_held.specs.declared.undo.HeldUndo.{HeldUndo}
use Rattle.gl_held.specs.declared.undo.Way.{Way}
use Rattle.gl_held.specs.declared.undo.Way.TheVariants.{Pumped}
use Rattle.gl_held.specs.Copied.{Copied}
use Rattle.gl_held.specs.CopiedBack.{values_before, queue_before, HasWayBack}
use Rattle.spec_states.specs.Delta.{Delta}
use Rattle.spec_states.specs.Laws.{LeadOnFrom}
use Rattle.gl_graph.specs.declared.keeps.KeepsUndo.{KeepsUndo}
use Rattle.gl_graph.specs.declared.keeps.KeepsUndo.TheVariants as u
use Rattle.gl_graph.specs.Derived as derived
use Rattle.gl_graph.specs.Derived.{of_filter, of_sorted, of_unique, of_grouping, of_range, of_function, of_collection, view_of_derived}
use Rattle.spec_states.specs.State.{over}
use Rattle.gl_graph.specs.Nodes.{own_of, OnInput, AreAmong, StandsFor}
use Rattle.gl_graph.specs.Graph.{IsLimit, IsLimited}
use Rattle.gl_graph.specs.Room.{Room, room, sorted_room, classes_room, IsNoMore}
use Rattle.gl_graph.proofs.NoMore.{no_more}
use Rattle.gl_graph.specs.Undos.{Contents, of_source, of_over, of_composite, of_held, of_proxy, contents, room_of, room_back, before, CanRetreat}

-- how much classes have room for
abbrev classes_rooms : Room → Rooms
classes_rooms r = record { list = r.sorted; firsts = r.firsts }

abbrev grouping_rooms : Room → grouped.Rooms
grouping_rooms r = record { classes = classes_rooms r; groups = r.kept }

-- the list over one input of these contents that has so much room
abbrev derived_with : Room → derived.Contents → Derived
derived_with r (of_filter c) = d.Filter (record { matcher = c.matcher; shown = c.shown; room = r.kept })
derived_with r (of_sorted c) = d.Sorted (sorted.with_room r.sorted c)
derived_with r (of_unique c) = d.Unique (unique.with_rooms (classes_rooms r) c)
derived_with r (of_grouping c) = d.Grouping (grouping.with_rooms (grouping_rooms r) c)
derived_with r (of_range c) = d.Range c
derived_with r (of_function c) = d.Function (record { func = c.func; values = c.values; room = r.kept })
derived_with r (of_collection c) = d.Collection (record { kids = c.kids; limit = c.limit; lens = c.lens; room = r.kept })

derived_own : (o : Derived) → derived_with (derived.room_of o) (derived.contents o) ≡ o
derived_own (d.Filter k) = refl
derived_own (d.Sorted k) = refl
derived_own (d.Unique k) = refl
derived_own (d.Grouping k) = refl
derived_own (d.Range k) = refl
derived_own (d.Function k) = refl
derived_own (d.Collection k) = refl

-- what holds whatever the room
derived_view : (r s : Room) (c : derived.Contents) → view_of_derived (derived_with r c) ≡ view_of_derived (derived_with s c)
derived_view r s (of_filter c) = refl
derived_view r s (of_sorted c) = refl
derived_view r s (of_unique c) = refl
derived_view r s (of_grouping c) = refl
derived_view r s (of_range c) = refl
derived_view r s (of_function c) = refl
derived_view r s (of_collection c) = refl

derived_stands : (xs : List Tree) (r s : Room) (c : derived.Contents) → derived.StandsFor (derived_with r c) xs → derived.StandsFor (derived_with s c) xs
derived_stands xs r s (of_filter c) h = h
derived_stands xs r s (of_sorted c) h = record { places = h.places; marks = h.marks }
derived_stands xs r s (of_unique c) h = unique.stands_same (classes_rooms r) (classes_rooms s) c xs h
derived_stands xs r s (of_grouping c) h = grouping.stands_same (grouping_rooms r) (grouping_rooms s) c xs h
derived_stands xs r s (of_range c) h = h
derived_stands xs r s (of_function c) h = h
derived_stands xs r s (of_collection c) h = h

derived_limit : (r s : Room) (c : derived.Contents) → derived.limit_of (derived_with r c) ≡ derived.limit_of (derived_with s c)
derived_limit r s (of_filter c) = refl
derived_limit r s (of_sorted c) = refl
derived_limit r s (of_unique c) = refl
derived_limit r s (of_grouping c) = refl
derived_limit r s (of_range c) = refl
derived_limit r s (of_function c) = refl
derived_limit r s (of_collection c) = refl

-- an undo makes the same of it; one of another kind makes nothing of it
derived_before : (undo : DerivedUndo) (r s : Room) (c : derived.Contents) → derived.before undo (derived_with r c) ≡ derived.before undo (derived_with s c)
derived_before (du.Filter undo) r s (of_filter c) = refl
derived_before (du.Sorted undo) r s (of_sorted c) = ap of_sorted (sorted.before_same undo r.sorted s.sorted c)
derived_before (du.Unique undo) r s (of_unique c) = ap of_unique (unique.before_same undo (classes_rooms r) (classes_rooms s) c)
derived_before (du.Grouping undo) r s (of_grouping c) = ap of_grouping (grouping.before_same undo (grouping_rooms r) (grouping_rooms s) c)
derived_before (du.Range undo) r s (of_range c) = refl
derived_before (du.Function undo) r s (of_function c) = refl
derived_before (du.Collection undo) r s (of_collection c) = refl
derived_before undo r s c = refl

-- it can be taken in more room, and then leaves no less
record IsRoomier (undo : DerivedUndo) (less more : Derived) : Type 0 where
  pub can : derived.CanRetreat undo more
  pub room : IsNoMore (derived.room_back undo less) (derived.room_back undo more)

kept_alone : (r s : Room) → IsNoMore r s → IsNoMore (room r.kept) (room s.kept)
kept_alone r s h = record { kept = h.kept; members = omega arith; sorted = omega arith; firsts = omega arith }

sorted_alone : (less more : ℕ) → less ≤ more → IsNoMore (sorted_room less) (sorted_room more)
sorted_alone less more h = record { kept = omega arith; members = omega arith; sorted = h; firsts = omega arith }

classes_more : (r s : Room) → IsNoMore r s → AreNoMore (classes_rooms r) (classes_rooms s)
classes_more r s h = record { list = h.sorted; firsts = h.firsts }

grouping_more : (r s : Room) → IsNoMore r s → grouped.AreNoMore (grouping_rooms r) (grouping_rooms s)
grouping_more r s h = record { classes = classes_more r s h; groups = h.kept }

of_classes : (less more : ℕ) (r s : Rooms) → less ≤ more → AreNoMore r s
    → IsNoMore (classes_room less r.list r.firsts) (classes_room more s.list s.firsts)
of_classes less more r s h rooms = record { kept = h; members = omega arith; sorted = rooms.list; firsts = rooms.firsts }

derived_in_more : (undo : DerivedUndo) (r s : Room) (c : derived.Contents) → IsNoMore r s → derived.CanRetreat undo (derived_with r c)
    → IsRoomier undo (derived_with r c) (derived_with s c)
derived_in_more (du.Filter undo) r s (of_filter c) h can = record { can = can_play_more _ r.kept s.kept undo.log.items c.shown h.kept can; room = kept_alone r s h }
derived_in_more (du.Sorted undo) r s (of_sorted c) h can = record {
  can = sorted.retreats_in_more undo r.sorted s.sorted c h.sorted can;
  room = sorted_alone _ _ (sorted.room_in_more undo r.sorted s.sorted c h.sorted);
}
derived_in_more (du.Unique undo) r s (of_unique c) h can = record {
  can = unique.retreats_in_more undo (classes_rooms r) (classes_rooms s) c (classes_more r s h) can;
  room = of_classes 0 0 _ _ (omega arith) (unique.rooms_in_more undo (classes_rooms r) (classes_rooms s) c (classes_more r s h));
}
derived_in_more (du.Grouping undo) r s (of_grouping c) h can =
    let more = grouping.rooms_in_more undo (grouping_rooms r) (grouping_rooms s) c (grouping_more r s h) in
    record {
      can = grouping.retreats_in_more undo (grouping_rooms r) (grouping_rooms s) c (grouping_more r s h) can;
      room = of_classes _ _ _ _ more.groups more.classes;
    }
derived_in_more (du.Range undo) r s (of_range c) h can = record { can = tt; room = no_more _ }
derived_in_more (du.Function undo) r s (of_function c) h can = record { can = can_play_more _ r.kept s.kept undo.log.items c.values h.kept can; room = kept_alone r s h }
derived_in_more (du.Collection undo) r s (of_collection c) h can = record {
  can = record { within = can.within; can = can_play_more _ r.kept s.kept undo.log.items c.lens h.kept can.can };
  room = kept_alone r s h;
}
derived_in_more undo r s c h can = absurd can

-- the composite of these contents that has so much room
abbrev composite_in : Room → composite_stands.Contents → composite_kept.Kept
composite_in room c = record { limit = c.limit; lists = c.lists; lens = c.lens; list_room = room.members; room = room.kept }

-- the list that can be held of these contents that has so much room
abbrev held_with : Room → held.Contents → HeldList
held_with room (held.of_transaction levels) = h.Transaction (record { levels = levels; room = room.kept })
held_with room (held.of_freezable since) = h.Freezable since

-- the proxy that shows this and has this queue
abbrev copy_with : Room → List Tree → List Delta → Copied
copy_with room values queue =
    record { values = values; queue = queue; room = room.kept; queue_room = room.members }

-- what a list keeps of these contents that has so much room
abbrev with_room : Room → Contents → Keeps
with_room room (of_source values limit) = Source (record { values = values; limit = limit; room = room.kept })
with_room room (of_over input c) = Over input (derived_with room c)
with_room room (of_composite needed c) = Composite needed (composite_in room c)
with_room room (of_held input c) = Held input (held_with room c)
with_room room (of_proxy input values queue) = Proxy input (copy_with room values queue)

its_own : (k : Keeps) → with_room (room_of k) (contents k) ≡ k
its_own (Source k) = refl
its_own (Over input o) = ap (Over input) (derived_own o)
its_own (Composite needed k) = refl
its_own (Held input (h.Transaction t)) = refl
its_own (Held input (h.Freezable since)) = refl
its_own (Proxy input p) = refl

-- what holds whatever the room holds of all lists of the same contents
carried : (P : Keeps → Type 0) → ((r s : Room) (c : Contents) → P (with_room r c) → P (with_room s c)) → (a b : Keeps)
    → contents a ≡ contents b → P a → P b
carried P any a b e h =
    let here : P (with_room (room_of a) (contents a)) = subst P (sym (its_own a)) h in
    let there : P (with_room (room_of b) (contents b)) = subst (λ c. P (with_room (room_of b) c)) e (any (room_of a) (room_of b) (contents a) here) in
    subst P (its_own b) there

pub own_same : (a b : Keeps) → contents a ≡ contents b → own_of a ≡ own_of b
own_same a b e = carried (λ k. own_of a ≡ own_of k) any a b e refl
  where
    any : (r s : Room) (c : Contents) → own_of a ≡ own_of (with_room r c) → own_of a ≡ own_of (with_room s c)
    any r s (of_source values limit) h = h
    any r s (of_over input c) h = h ∙ ap (over input) (derived_view r s c)
    any r s (of_composite needed c) e = e
    any r s (of_held input (held.of_transaction levels)) e = e
    any r s (of_held input (held.of_freezable since)) e = e
    any r s (of_proxy input values queue) e = e

pub stands_same : (shows : ℕ → List Tree) (a b : Keeps) → contents a ≡ contents b → StandsFor a shows
    → StandsFor b shows
stands_same shows a b e h = carried (λ k. StandsFor k shows) any a b e h
  where
    any : (r s : Room) (c : Contents) → StandsFor (with_room r c) shows → StandsFor (with_room s c) shows
    any r s (of_source values limit) h = h
    any r s (of_over input c) h = derived_stands (shows input) r s c h
    any r s (of_composite needed c) e = e
    any r s (of_held input (held.of_transaction levels)) e = e
    any r s (of_held input (held.of_freezable since)) e = e
    any r s (of_proxy input values queue) e = e

pub limited_same : (limit : ℕ) (a b : Keeps) → contents a ≡ contents b → IsLimited limit a → IsLimited limit b
limited_same limit a b e h = carried (λ k. IsLimited limit k) any a b e h
  where
    any : (r s : Room) (c : Contents) → IsLimited limit (with_room r c) → IsLimited limit (with_room s c)
    any r s (of_source values most) h = h
    any r s (of_over input c) h = subst (IsLimit limit) (derived_limit r s c) h
    any r s (of_composite needed c) h = h
    any r s (of_held input c) h = h
    any r s (of_proxy input values queue) h = h

pub on_input_same : (P : ℕ → Type 0) (a b : Keeps) → contents a ≡ contents b → OnInput P a → OnInput P b
on_input_same P a b e h = carried (λ k. OnInput P k) any a b e h
  where
    any : (r s : Room) (c : Contents) → OnInput P (with_room r c) → OnInput P (with_room s c)
    any r s (of_source values limit) h = h
    any r s (of_over input c) h = h
    any r s (of_composite needed c) h = h
    any r s (of_held input c) h = h
    any r s (of_proxy input values queue) h = h

-- an undo makes the same of lists of the same contents
pub before_same : (undo : KeepsUndo) (a b : Keeps) → contents a ≡ contents b → before undo a ≡ before undo b
before_same undo a b e = carried (λ k. before undo a ≡ before undo k) (λ r s c h. h ∙ any undo r s c) a b e refl
  where
    same_contents : (input : ℕ) (r s : Room) (c : derived.Contents) → contents (Over input (derived_with r c)) ≡ contents (Over input (derived_with s c))
    same_contents input r s (of_filter c) = refl
    same_contents input r s (of_sorted c) = refl
    same_contents input r s (of_unique c) = refl
    same_contents input r s (of_grouping c) = refl
    same_contents input r s (of_range c) = refl
    same_contents input r s (of_function c) = refl
    same_contents input r s (of_collection c) = refl

    same_held : (input : ℕ) (r s : Room) (c : held.Contents) → contents (Held input (held_with r c)) ≡ contents (Held input (held_with s c))
    same_held input r s (held.of_transaction levels) = refl
    same_held input r s (held.of_freezable since) = refl

    held_before : (undo : HeldUndo) (r s : Room) (c : held.Contents) → held.before undo (held_with r c) ≡ held.before undo (held_with s c)
    held_before undo r s (held.of_transaction levels) = refl
    held_before undo r s (held.of_freezable since) = refl

    copy_before : (way : Way) (input : ℕ) (r s : Room) (values : List Tree) (queue : List Delta)
        → of_proxy input (values_before way (copy_with r values queue)) (queue_before way queue)
        ≡ of_proxy input (values_before way (copy_with s values queue)) (queue_before way queue)
    copy_before (Pumped d undo) input r s values queue = refl
    copy_before other input r s values queue = refl

    same_step : (step : Step) (needed : List ℕ) (r s : Room) (c : composite_stands.Contents) → composite_stands.stepped step (composite_in r c) ≡ composite_stands.stepped step (composite_in s c)
    same_step (Attached at) needed r s c = refl
    same_step (Detached at list len) needed r s c = refl
    same_step (Advanced log) needed r s c = refl

    any : (undo : KeepsUndo) (r s : Room) (c : Contents) → before undo (with_room r c) ≡ before undo (with_room s c)
    any (u.Source undo) r s (of_source values limit) = refl
    any (u.Source undo) r s (of_over input c) = same_contents input r s c
    any (u.Source undo) r s (of_composite needed c) = refl
    any (u.Over undo) r s (of_source values limit) = refl
    any (u.Over undo) r s (of_over input c) = ap (of_over input) (derived_before undo r s c)
    any (u.Over undo) r s (of_composite needed c) = refl
    any (u.Composite undo) r s (of_source values limit) = refl
    any (u.Composite undo) r s (of_over input c) = same_contents input r s c
    any (u.Composite undo) r s (of_composite needed c) = ap (of_composite needed) (same_step undo.step needed r s c)
    any (u.Held undo) r s (of_source values limit) = refl
    any (u.Held undo) r s (of_over input c) = same_contents input r s c
    any (u.Held undo) r s (of_composite needed c) = refl
    any (u.Held undo) r s (of_held input c) = ap (of_held input) (held_before undo r s c)
    any u.Unchanged r s (of_source values limit) = refl
    any u.Unchanged r s (of_over input c) = same_contents input r s c
    any u.Unchanged r s (of_composite needed c) = refl
    any (u.Pumped undo) r s (of_source values limit) = refl
    any (u.Pumped undo) r s (of_over input c) = same_contents input r s c
    any (u.Pumped undo) r s (of_composite needed c) = refl
    any (u.Pumped undo) r s (of_proxy input values queue) = copy_before undo.way input r s values queue
    any (u.Source undo) r s (of_proxy input values queue) = refl
    any (u.Over undo) r s (of_proxy input values queue) = refl
    any (u.Composite undo) r s (of_proxy input values queue) = refl
    any (u.Held undo) r s (of_proxy input values queue) = refl
    any u.Unchanged r s (of_proxy input values queue) = refl
    any other r s (of_held input c) = same_held input r s c

-- an undo can be taken of the one list as of the other, and leaves no less room there
pub record CanAlso (undo : KeepsUndo) (a b : Keeps) : Type 0 where
  pub can : CanRetreat undo b
  pub room : IsNoMore (room_back undo a) (room_back undo b)

step_in_more : (step : Step) (r s : Room) (c : composite_stands.Contents) → IsNoMore r s → composite_stands.CanStep step (composite_in r c)
    → composite_stands.CanStep step (composite_in s c)
step_in_more (Attached at) r s c h can = can
step_in_more (Detached at list len) r s c h can = (can.0, omega (arith, can.1, h.members), record { fits = omega (arith, can.2.fits, h.kept); few = can.2.few })
step_in_more (Advanced log) r s c h can = can_play_more _ r.kept s.kept log.items c.lens h.kept can

copy_in_more : (way : Way) (r s : Room) (values : List Tree) (queue : List Delta) → IsNoMore r s
    → HasWayBack way (copy_with r values queue) → LeadOnFrom (queue_before way queue) (values_before way (copy_with r values queue))
    → HasWayBack way (copy_with s values queue) × LeadOnFrom (queue_before way queue) (values_before way (copy_with s values queue))
copy_in_more (Pumped d undo) r s values queue h has leads =
    (record { within = has.within; can = can_play_more _ r.kept s.kept undo.log.items values h.kept has.can }, leads)
copy_in_more other r s values queue h has leads = absurd has

in_more : (undo : KeepsUndo) (r s : Room) (c : Contents) → IsNoMore r s → CanRetreat undo (with_room r c)
    → CanAlso undo (with_room r c) (with_room s c)
in_more (u.Source undo) r s (of_source values limit) h can = record {
  can = record { within = can.within; can = can_play_more _ r.kept s.kept undo.log.items values h.kept can.can };
  room = kept_alone r s h;
}
in_more (u.Over undo) r s (of_over input c) h can =
    let more = derived_in_more undo r s c h can in
    record { can = more.can; room = more.room }
in_more (u.Composite undo) r s (of_composite needed c) h can = record {
  can = record {
    within = stepped_within undo.step r s c can.within;
    can = step_in_more undo.step r s c h can.can;
  };
  room = record { kept = h.kept; members = h.members; sorted = omega arith; firsts = omega arith };
}
  where
    stepped_within : (step : Step) (r s : Room) (c : composite_stands.Contents)
        → composite_kept.IsWithin (composite_stands.stepped step (composite_in r c)).limit (composite_stands.stepped step (composite_in r c)).lists (composite_stands.stepped step (composite_in r c)).lens
        → composite_kept.IsWithin (composite_stands.stepped step (composite_in s c)).limit (composite_stands.stepped step (composite_in s c)).lists (composite_stands.stepped step (composite_in s c)).lens
    stepped_within (Attached at) r s c h = h
    stepped_within (Detached at list len) r s c h = h
    stepped_within (Advanced log) r s c h = h
in_more (u.Held undo) r s (of_held input (held.of_transaction levels)) h can = record {
  can = record { has = can.has; joined = can.joined; room = omega (arith, can.room, h.kept) };
  room = kept_alone r s h;
}
in_more (u.Held undo) r s (of_held input (held.of_freezable since)) h can = record { can = can; room = no_more _ }
in_more (u.Pumped undo) r s (of_proxy input values queue) h can =
    let more = copy_in_more undo.way r s values queue h can.has can.leads in
    record {
      can = record { has = more.0; leads = more.1; room = omega (arith, can.room, h.members) };
      room = record { kept = h.kept; members = h.members; sorted = omega arith; firsts = omega arith };
    }
in_more (u.Source undo) r s (of_proxy input values queue) h can = absurd can
in_more (u.Over undo) r s (of_proxy input values queue) h can = absurd can
in_more (u.Composite undo) r s (of_proxy input values queue) h can = absurd can
in_more (u.Held undo) r s (of_proxy input values queue) h can = absurd can
in_more u.Unchanged r s (of_proxy input values queue) h can = absurd can
in_more (u.Pumped undo) r s (of_source values limit) h can = absurd can
in_more (u.Pumped undo) r s (of_over input c) h can = absurd can
in_more (u.Pumped undo) r s (of_composite needed c) h can = absurd can
in_more (u.Pumped undo) r s (of_held input c) h can = absurd can
in_more u.Unchanged r s (of_held input (held.of_transaction levels)) h can = record { can = tt; room = kept_alone r s h }
in_more u.Unchanged r s (of_held input (held.of_freezable since)) h can = record { can = tt; room = no_more _ }
in_more (u.Source undo) r s (of_over input c) h can = absurd can
in_more (u.Source undo) r s (of_composite needed c) h can = absurd can
in_more (u.Over undo) r s (of_source values limit) h can = absurd can
in_more (u.Over undo) r s (of_composite needed c) h can = absurd can
in_more (u.Composite undo) r s (of_source values limit) h can = absurd can
in_more (u.Composite undo) r s (of_over input c) h can = absurd can
in_more (u.Source undo) r s (of_held input c) h can = absurd can
in_more (u.Over undo) r s (of_held input c) h can = absurd can
in_more (u.Composite undo) r s (of_held input c) h can = absurd can
in_more (u.Held undo) r s (of_source values limit) h can = absurd can
in_more (u.Held undo) r s (of_over input c) h can = absurd can
in_more (u.Held undo) r s (of_composite needed c) h can = absurd can
in_more u.Unchanged r s (of_source values limit) h can = absurd can
in_more u.Unchanged r s (of_over input c) h can = absurd can
in_more u.Unchanged r s (of_composite needed c) h can = absurd can

-- what can go back can do so in more room
pub retreat_same : (undo : KeepsUndo) (a b : Keeps) → contents a ≡ contents b → IsNoMore (room_of a) (room_of b)
    → CanRetreat undo a → CanAlso undo a b
retreat_same undo a b e more can =
    let here : CanRetreat undo (with_room (room_of a) (contents a)) = subst (λ k. CanRetreat undo k) (sym (its_own a)) can in
    let larger : CanAlso undo (with_room (room_of a) (contents a)) (with_room (room_of b) (contents a)) =
    in_more undo (room_of a) (room_of b) (contents a) more here in
    let own : CanAlso undo a (with_room (room_of b) (contents a)) = subst (λ k. CanAlso undo k (with_room (room_of b) (contents a))) (its_own a) larger in
    let there : CanAlso undo a (with_room (room_of b) (contents b)) = subst (λ c. CanAlso undo a (with_room (room_of b) c)) e own in
    subst (λ k. CanAlso undo a k) (its_own b) there

-- what is said of each list is said of the input
pub on_input_more : {P Q : ℕ → Type 0} → ((i : ℕ) → P i → Q i) → (k : Keeps) → OnInput P k → OnInput Q k
on_input_more f (Source k) h = h
on_input_more f (Over input o) h = f input h
on_input_more {P} {Q} f (Composite needed k) h = All-weaker P Q f needed h
on_input_more f (Held input k) h = f input h
on_input_more f (Proxy input p) h = f input h

-- the members of a composite go by its contents
pub among_same : (a b : Keeps) → contents a ≡ contents b → AreAmong a → AreAmong b
among_same a b e h = carried AreAmong any a b e h
  where
    any : (r s : Room) (c : Contents) → AreAmong (with_room r c) → AreAmong (with_room s c)
    any r s (of_source values limit) h = h
    any r s (of_over input c) h = h
    any r s (of_composite needed c) h = h
    any r s (of_held input c) h = h
    any r s (of_proxy input values queue) h = h
