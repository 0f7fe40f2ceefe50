-- What the undos of lists give back.
use Rattle.std.specs.Prelude.{◌≡◌, ⊤, ℕ, List}
use Rattle.spec_states.specs.Tree.{Tree}
use Rattle.spec_states.specs.Delta.{Delta}
use Rattle.gl_source.specs.Stands as source
use Rattle.gl_graph.specs.declared.keeps.Keeps.{Keeps}
use Rattle.gl_graph.specs.declared.keeps.Keeps.TheVariants.{Source, Over, Composite, Held, Proxy}
use Rattle.gl_graph.specs.declared.keeps.KeepsUndo.{KeepsUndo}
use Rattle.gl_graph.specs.declared.keeps.KeepsUndo.TheVariants as u
use Rattle.gl_composite.specs.Stands as composite_stands
use Rattle.gl_graph.specs.Derived as derived
use Rattle.gl_graph.specs.Held as held_list
use Rattle.gl_held.specs.CopiedBack.{values_before, queue_before, CanRetreatCopy}
use Rattle.gl_graph.specs.Room.{Room, room, IsNoMore}

-- what a list keeps, whatever its room
pub data Contents : Type 0 where
  of_source : List Tree → ℕ → Contents
  of_over : ℕ → derived.Contents → Contents
  of_composite : List ℕ → composite_stands.Contents → Contents
  of_held : ℕ → held_list.Contents → Contents
  of_proxy : ℕ → List Tree → List Delta → Contents

abbrev pub contents : Keeps → Contents
contents (Source k) = of_source k.values k.limit
contents (Over input d) = of_over input (derived.contents d)
contents (Composite needed k) = of_composite needed (composite_stands.contents k)
contents (Held input h) = of_held input (held_list.contents h)
contents (Proxy input p) = of_proxy input p.values p.queue

-- how much it has room for
abbrev pub room_of : Keeps → Room
room_of (Source k) = room k.room
room_of (Over input d) = derived.room_of d
room_of (Composite needed k) =
    record { kept = k.room; members = k.list_room; sorted = 0; firsts = 0 }
room_of (Held input h) = held_list.room_of h
room_of (Proxy input p) =
    record { kept = p.room; members = p.queue_room; sorted = 0; firsts = 0 }

-- what an undo makes of a list; one of another kind makes nothing of it
abbrev pub before : KeepsUndo → Keeps → Contents
before (u.Source undo) (Source k) = of_source (source.before undo k) k.limit
before (u.Over undo) (Over input d) = of_over input (derived.before undo d)
before (u.Composite undo) (Composite needed k) =
    of_composite needed (composite_stands.before undo k)
before (u.Held undo) (Held input h) = of_held input (held_list.before undo h)
before (u.Pumped undo) (Proxy input p) =
    of_proxy input (values_before undo.way p) (queue_before undo.way p.queue)
before undo keeps = contents keeps

-- the undo is of the list's kind, and the list has what the way back needs
abbrev pub CanRetreat : KeepsUndo → Keeps → Type 0
CanRetreat (u.Source undo) (Source k) = source.CanRetreat undo k
CanRetreat (u.Over undo) (Over input d) = derived.CanRetreat undo d
CanRetreat (u.Composite undo) (Composite needed k) = composite_stands.CanRetreat undo k
CanRetreat (u.Held undo) (Held input h) = held_list.CanRetreat undo h
CanRetreat (u.Pumped undo) (Proxy input p) = CanRetreatCopy undo p
CanRetreat u.Unchanged (Held input h) = ⊤
CanRetreat undo keeps = ⊥

-- how much a list has room for once an undo was taken
abbrev pub room_back : KeepsUndo → Keeps → Room
room_back (u.Over undo) (Over input d) = derived.room_back undo d
room_back undo keeps = room_of keeps

-- the undo is of the list's last change: it leads back to what the list was, in no less room, and can be made
pub record IsUndo (undo : KeepsUndo) (old new : Keeps) : Type 0 where
  pub back : before undo new ≡ contents old
  pub room : IsNoMore (room_of old) (room_back undo new)
  pub can : CanRetreat undo new
