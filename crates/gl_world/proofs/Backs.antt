-- Laws on the way back of a section.
use Rattle.std.proofs.Common.{◌≡◌, ◌∙◌, List, [], ◌∷◌, ◌++◌, length, refl, ap, sym}
use Rattle.gl_graph.specs.declared.graph.GraphUndo.{GraphUndo}
use Rattle.gl_graph.specs.Nodes.{numbers}
use Rattle.gl_graph.specs.Graph.{Kept, IsGraph}
use Rattle.gl_graph.specs.Waves.{Contents, contents, before, by_position, HaveRoomOf, IsAsRoomy, IsUndo, CanRetreat}
use Rattle.gl_graph.proofs.Progress.{room_same, room_on, contents_same_graph, undo_carries, undo_numbers, undo_reaches, undo_can}
use Rattle.gl_world.specs.Back.{IsChanged, IsLike, Leads, CanGoBack, GoesOn}

pub like_same : (k : Kept) → IsLike k k
like_same k = record { same = refl; room = room_same k.nodes }

same_numbers : (a b : Kept) → contents b ≡ contents a → numbers a.nodes ≡ numbers b.nodes
same_numbers a b e = ap (λ (c : Contents). c.numbers) (sym e)

pub like_on : (a b c : Kept) → IsLike a b → IsLike b c → IsLike a c
like_on a b c h k = record {
  same = k.same ∙ h.same;
  room = room_on [] [] [] a.nodes b.nodes c.nodes (same_numbers a b h.same) h.room k.room;
}

-- a change of what is like a graph is one of the graph
like_changed : (undo : GraphUndo) (a b c : Kept) → IsLike a b → IsChanged undo b c → IsChanged undo a c
like_changed undo a b c h k = record {
  graph = contents_same_graph b a h.same k.graph;
  is = record {
    back = k.is.back ∙ h.same;
    room = room_on [] [] (by_position (length c.nodes) undo.made.items) a.nodes b.nodes c.nodes (same_numbers a b h.same) h.room k.is.room;
    can = k.is.can;
    apart = k.is.apart;
  };
}

-- and what is like the changed graph is changed so
changed_like : (undo : GraphUndo) (a b c : Kept) → IsChanged undo a b → IsLike b c → IsChanged undo a c
changed_like undo a b c h k = record {
  graph = h.graph;
  is = undo_carries undo a b c h.is k.same k.room;
}

-- undos lead back from what is like the graph
pub leads_like : (undos : List GraphUndo) (start now next : Kept) → Leads undos start now → IsLike now next
    → Leads undos start next
leads_like [] start now next h k = like_on start now next h k
leads_like (undo ∷ undos) start now next h k = (h.0, h.1, leads_like undos h.0 now next h.2 k)

-- and with the undo of one change more from the changed graph
pub leads_more : (undos : List GraphUndo) (undo : GraphUndo) (start now next : Kept) → Leads undos start now
    → IsChanged undo now next → Leads (undos ++ undo ∷ []) start next
leads_more [] undo start now next h k = (next, like_changed undo start now next h k, like_same next)
leads_more (first ∷ undos) undo start now next h k = (h.0, h.1, leads_more undos undo h.0 now next h.2 k)

-- the graph before the last change
record IsLast (undos : List GraphUndo) (undo : GraphUndo) (start now : Kept) : Type 0 where
  pub old : Kept
  pub leads : Leads undos start old
  pub changed : IsChanged undo old now

last_of : (undos : List GraphUndo) (undo : GraphUndo) (start now : Kept) → Leads (undos ++ undo ∷ []) start now
    → IsLast undos undo start now
last_of [] undo start now h = record {
  old = start;
  leads = like_same start;
  changed = changed_like undo start h.0 now h.1 h.2;
}
last_of (first ∷ undos) undo start now h =
    let l : IsLast undos undo h.0 now = last_of undos undo h.0 now h.2 in
    record { old = l.old; leads = (h.0, h.1, l.leads); changed = l.changed }

-- the last change can be taken back
pub last_can : (undos : List GraphUndo) (undo : GraphUndo) (now : Kept) → CanGoBack (undos ++ undo ∷ []) now
    → CanRetreat undo now
last_can undos undo now h =
    let l : IsLast undos undo h.0 now = last_of undos undo h.0 now h.1 in
    undo_can undo l.old now l.changed.graph l.changed.is

-- and then the other undos lead back
pub others_lead : (undos : List GraphUndo) (undo : GraphUndo) (start now next : Kept)
    → Leads (undos ++ undo ∷ []) start now
    → contents next ≡ before undo now → IsAsRoomy undo now next → Leads undos start next
others_lead undos undo start now next h back room =
    let l : IsLast undos undo start now = last_of undos undo start now h in
    leads_like undos start l.old next l.leads (record {
      same = undo_reaches undo l.old now next l.changed.is back;
      room = room_on [] (by_position (length now.nodes) undo.made.items) [] l.old.nodes now.nodes next.nodes (undo_numbers undo l.old now l.changed.is) l.changed.is.room room;
    })

-- ---- a command

-- a command that changed nothing
pub goes_like : (undos : List GraphUndo) (old new : Kept) → contents new ≡ contents old → HaveRoomOf old.nodes new.nodes
    → GoesOn undos old undos new
goes_like undos old new same room start h = leads_like undos start old new h (record { same = same; room = room })

-- one that made a change whose undo was kept
pub goes_more : (undos : List GraphUndo) (undo : GraphUndo) (old new : Kept) → IsGraph old.limit old.nodes old.positions
    → IsUndo undo old new → GoesOn undos old (undos ++ undo ∷ []) new
goes_more undos undo old new graph is start h =
    leads_more undos undo start old new h (record { graph = graph; is = is })

-- one that made a change that was taken back
pub goes_back : (undos : List GraphUndo) (undo : GraphUndo) (old new back : Kept) → IsUndo undo old new
    → contents back ≡ before undo new → IsAsRoomy undo new back → GoesOn undos old undos back
goes_back undos undo old new back is same more =
    goes_like undos old back (undo_reaches undo old new back is same)
    (room_on [] (by_position (length new.nodes) undo.made.items) [] old.nodes new.nodes back.nodes (undo_numbers undo old new is) is.room more)
