-- Laws on the way back: it goes from graph to graph of equal contents, as far as there is room.
use Rattle.std.proofs.Common.{◌≡◌, ◌∙◌, ℕ, zero, suc, List, [], ◌∷◌, length, refl, ap, sym, subst}
use Rattle.std.proofs.lemmas.List.{length-map}
use Rattle.std.specs.Prelude.{Option, Some, None, slice_get}
use Rattle.gl_graph.specs.declared.keeps.Keeps.{Keeps}
use Rattle.gl_graph.specs.declared.node.Node.{Node}
use Rattle.gl_graph.specs.declared.keeps.KeepsUndo.{KeepsUndo}
use Rattle.gl_graph.specs.declared.graph.GraphUndo.{GraphUndo}
use Rattle.gl_graph.specs.Nodes.{numbers}
use Rattle.gl_graph.specs.Nodes as made
use Rattle.gl_graph.specs.Undos as keeps
use Rattle.gl_graph.specs.Graph.{Kept, IsGraph, state_of}
use Rattle.gl_graph.specs.Waves.{Contents, by_position, AreApart, contents, contents_of, before, before_one, before_all, room_one, CanGoBack, CanAllGoBack, HaveRoomBack, HaveRoomOf, IsUndo, CanRetreat}
use Rattle.gl_graph.specs.Room.{IsNoMore}
use Rattle.gl_graph.proofs.NoMore.{no_more, no_more_on}
use Rattle.gl_graph.proofs.Rooms.{before_same, retreat_same}
use Rattle.gl_graph.proofs.Alike.{state_same, graph_same}

-- undos make the same of nodes of the same contents
pub before_all_same : (undos : List (Option KeepsUndo)) (a b : List Node) → contents_of a ≡ contents_of b
    → before_all undos a ≡ before_all undos b
before_all_same undos [] [] e = refl
before_all_same undos [] (n ∷ b) e = absurd cc
before_all_same undos (m ∷ a) [] e = absurd cc
before_all_same [] (m ∷ a) (n ∷ b) e =
    let first : keeps.contents m.keeps ≡ keeps.contents n.keeps = cc in
    let rest : contents_of a ≡ contents_of b = cc in
    ap (λ c. c ∷ before_all [] a) first ∙ ap (λ cs. keeps.contents n.keeps ∷ cs) (before_all_same [] a b rest)
before_all_same (undo ∷ undos) (m ∷ a) (n ∷ b) e =
    let first : keeps.contents m.keeps ≡ keeps.contents n.keeps = cc in
    let rest : contents_of a ≡ contents_of b = cc in
    ap (λ c. c ∷ before_all undos a) (one_same undo m.keeps n.keeps first) ∙ ap (λ cs. before_one undo n.keeps ∷ cs) (before_all_same undos a b rest)
  where
    one_same : (undo : Option KeepsUndo) (a b : Keeps) → keeps.contents a ≡ keeps.contents b
        → before_one undo a ≡ before_one undo b
    one_same None a b e = e
    one_same (Some undo) a b e = before_same undo a b e

room_rest : (m n : Node) (a b : List Node) → HaveRoomOf (m ∷ a) (n ∷ b) → HaveRoomOf a b
room_rest m n a b h position x y is_x is_y = h (suc position) x y is_x is_y

-- what can go back can do so in more room
pub can_all_same : (undos : List (Option KeepsUndo)) (a b : List Node) → contents_of a ≡ contents_of b
    → HaveRoomOf a b → CanAllGoBack undos a → CanAllGoBack undos b
can_all_same undos [] [] e room can = tt
can_all_same undos [] (n ∷ b) e room can = absurd cc
can_all_same undos (m ∷ a) [] e room can = absurd cc
can_all_same [] (m ∷ a) (n ∷ b) e room can = tt
can_all_same (undo ∷ undos) (m ∷ a) (n ∷ b) e room can =
    let first : keeps.contents m.keeps ≡ keeps.contents n.keeps = cc in
    let rest : contents_of a ≡ contents_of b = cc in
    (one_more undo m.keeps n.keeps first (room 0 m n refl refl) can.0, can_all_same undos a b rest (room_rest m n a b room) can.1)
  where
    one_more : (undo : Option KeepsUndo) (a b : Keeps) → keeps.contents a ≡ keeps.contents b
        → IsNoMore (keeps.room_of a) (keeps.room_of b) → CanGoBack undo a → CanGoBack undo b
    one_more None a b e more can = tt
    one_more (Some undo) a b e more can = (retreat_same undo a b e more can).can

-- and then has no less
pub rooms_same : (undos : List (Option KeepsUndo)) (a b : List Node) → contents_of a ≡ contents_of b
    → HaveRoomOf a b → CanAllGoBack undos a → HaveRoomBack undos a undos b
rooms_same [] a b e room can position x y is_x is_y = room position x y is_x is_y
rooms_same (undo ∷ undos) [] b e room can position x y is_x is_y = absurd cc
rooms_same (undo ∷ undos) (m ∷ a) [] e room can position x y is_x is_y = absurd cc
rooms_same (undo ∷ undos) (m ∷ a) (n ∷ b) e room can zero x y is_x is_y =
    let first : keeps.contents m.keeps ≡ keeps.contents n.keeps = cc in
    let left : m ≡ x = cc in
    let right : n ≡ y = cc in
    subst (λ (k : Node). IsNoMore (room_one undo k.keeps) (room_one undo y.keeps)) left
    (subst (λ (k : Node). IsNoMore (room_one undo m.keeps) (room_one undo k.keeps)) right
    (one_room undo m.keeps n.keeps first (room 0 m n refl refl) can.0))
  where
    one_room : (undo : Option KeepsUndo) (a b : Keeps) → keeps.contents a ≡ keeps.contents b
        → IsNoMore (keeps.room_of a) (keeps.room_of b) → CanGoBack undo a → IsNoMore (room_one undo a) (room_one undo b)
    one_room None a b e more can = more
    one_room (Some undo) a b e more can = (retreat_same undo a b e more can).room
rooms_same (undo ∷ undos) (m ∷ a) (n ∷ b) e room can (suc position) x y is_x is_y =
    let rest : contents_of a ≡ contents_of b = cc in
    rooms_same undos a b rest (room_rest m n a b room) can.1 position x y is_x is_y

-- a graph has the room that it has
pub room_same : (a : List Node) → HaveRoomOf a a
room_same a position x y is_x is_y =
    let same : x ≡ y = cc in
    subst (λ (n : Node). IsNoMore (keeps.room_of x.keeps) (keeps.room_of n.keeps)) same (no_more (keeps.room_of x.keeps))

-- a node at the place
record There (nodes : List Node) (position : ℕ) : Type 0 where
  pub node : Node
  pub is : slice_get nodes position ≡ Some node

node_there : (a b : List Node) → numbers a ≡ numbers b → (position : ℕ) (x : Node) → slice_get a position ≡ Some x
    → There b position
node_there [] b e position x is = absurd cc
node_there (m ∷ a) [] e position x is = absurd cc
node_there (m ∷ a) (n ∷ b) e zero x is = record { node = n; is = refl }
node_there (m ∷ a) (n ∷ b) e (suc position) x is =
    let rest : numbers a ≡ numbers b = cc in
    let t = node_there a b rest position x is in
    record { node = t.node; is = t.is }

-- no room is lost on the way from the first nodes over the second to the third
pub room_on : (us vs ws : List (Option KeepsUndo)) (a b c : List Node) → numbers a ≡ numbers b → HaveRoomBack us a vs b
    → HaveRoomBack vs b ws c → HaveRoomBack us a ws c
room_on us vs ws a b c e h k position x z is_x is_z =
    let t = node_there a b e position x is_x in
    no_more_on _ _ _ (h position x t.node is_x t.is) (k position t.node z t.is is_z)

-- graphs of the same contents are in the same state
pub contents_same_state : (a b : Kept) → contents a ≡ contents b → state_of a ≡ state_of b
contents_same_state a b e =
    state_same a.nodes b.nodes a.positions (ap (λ (c : Contents). c.lists) e) ∙ ap (λ positions. made.state_of b.nodes positions) (ap (λ (c : Contents). c.positions) e)

-- contents of a graph are those of a graph
pub contents_same_graph : (a b : Kept) → contents a ≡ contents b → IsGraph a.limit a.nodes a.positions
    → IsGraph b.limit b.nodes b.positions
contents_same_graph a b e g =
    let limit : a.limit ≡ b.limit = ap (λ (c : Contents). c.limit) e in
    let positions : a.positions ≡ b.positions = ap (λ (c : Contents). c.positions) e in
    let numbers_are : numbers a.nodes ≡ numbers b.nodes = ap (λ (c : Contents). c.numbers) e in
    let here : IsGraph b.limit a.nodes a.positions = subst (λ n. IsGraph n a.nodes a.positions) limit g in
    let there : IsGraph b.limit a.nodes b.positions = subst (λ ps. IsGraph b.limit a.nodes ps) positions here in
    graph_same b.limit a.nodes b.nodes b.positions numbers_are (ap (λ (c : Contents). c.lists) e) there

same_long : (a b : List Node) → contents_of a ≡ contents_of b → length a ≡ length b
same_long a b e = sym (length-map a (λ (n : Node). keeps.contents n.keeps)) ∙ (ap length e ∙ length-map b (λ (n : Node). keeps.contents n.keeps))

-- an undo leads back from every graph of the contents after the change
pub undo_same : (undo : GraphUndo) (old mid now : Kept) → IsUndo undo old mid → contents now ≡ contents mid
    → before undo now ≡ contents old
undo_same undo old mid now is e =
    let lists : contents_of now.nodes ≡ contents_of mid.nodes = ap (λ (c : Contents). c.lists) e in
    let us = by_position (length mid.nodes) undo.made.items in
    let long : length now.nodes ≡ length mid.nodes = same_long now.nodes mid.nodes lists in
    let same : before_all (by_position (length now.nodes) undo.made.items) now.nodes ≡ before_all us mid.nodes =
    ap (λ n. before_all (by_position n undo.made.items) now.nodes) long ∙ before_all_same us now.nodes mid.nodes lists in
    ap (λ c. with_lists c (before_all (by_position (length now.nodes) undo.made.items) now.nodes)) e
    ∙ (ap (with_lists (contents mid)) same ∙ is.back)
  where
    with_lists : Contents → List keeps.Contents → Contents
    with_lists c ks = record { limit = c.limit; numbers = c.numbers; lists = ks; positions = c.positions }

-- a change that has an undo leaves the numbers of the nodes, their places and the limit
pub undo_numbers : (undo : GraphUndo) (old new : Kept) → IsUndo undo old new → numbers old.nodes ≡ numbers new.nodes
undo_numbers undo old new is = ap (λ (c : Contents). c.numbers) (sym is.back)

pub undo_positions : (undo : GraphUndo) (old new : Kept) → IsUndo undo old new → old.positions ≡ new.positions
undo_positions undo old new is = ap (λ (c : Contents). c.positions) (sym is.back)

pub undo_limit : (undo : GraphUndo) (old new : Kept) → IsUndo undo old new → old.limit ≡ new.limit
undo_limit undo old new is = ap (λ (c : Contents). c.limit) (sym is.back)

-- and can be made there if the room is no less
pub undo_carries : (undo : GraphUndo) (old mid now : Kept)
    → IsUndo undo old mid → contents now ≡ contents mid → HaveRoomOf mid.nodes now.nodes → IsUndo undo old now
undo_carries undo old mid now is e room =
    let lists : contents_of mid.nodes ≡ contents_of now.nodes = ap (λ (c : Contents). c.lists) (sym e) in
    let long : length mid.nodes ≡ length now.nodes = same_long mid.nodes now.nodes lists in
    let us = by_position (length mid.nodes) undo.made.items in
    let rooms : HaveRoomBack [] old.nodes us now.nodes =
    room_on [] us us old.nodes mid.nodes now.nodes (undo_numbers undo old mid is) is.room (rooms_same us mid.nodes now.nodes lists room is.can) in
    record {
      back = undo_same undo old mid now is e;
      room = subst (λ n. HaveRoomBack [] old.nodes (by_position n undo.made.items) now.nodes) long rooms;
      can = subst (λ n. CanAllGoBack (by_position n undo.made.items) now.nodes) long
          (can_all_same (by_position (length mid.nodes) undo.made.items) mid.nodes now.nodes lists room is.can);
      apart = subst (λ n. AreApart n undo.made.items) long is.apart;
    }

-- what goes back reaches what there was
pub undo_reaches : (undo : GraphUndo) (old new now : Kept) → IsUndo undo old new → contents now ≡ before undo new
    → contents now ≡ contents old
undo_reaches undo old new now is e = e ∙ is.back

-- an undo of the last change of a graph can be taken
pub undo_can : (undo : GraphUndo) (old new : Kept) → IsGraph old.limit old.nodes old.positions → IsUndo undo old new
    → CanRetreat undo new
undo_can undo old new graph is = record { old = old; graph = graph; is = is }

-- nodes that have gone back make a graph with the same places
pub gone_graph : (undo : GraphUndo) (old k : Kept) (nodes : List Node) → IsGraph old.limit old.nodes old.positions
    → IsUndo undo old k
    → contents_of nodes ≡ before_all (by_position (length k.nodes) undo.made.items) k.nodes → numbers nodes ≡ numbers k.nodes
    → IsGraph k.limit nodes k.positions
gone_graph undo old k nodes graph is kernels_are numbers_are =
    let now : Kept = record { limit = k.limit; nodes = nodes; positions = k.positions } in
    let there : contents now ≡ before undo k =
    ap (λ ns. made_of ns (contents_of nodes)) numbers_are ∙ ap (λ ks. made_of (numbers k.nodes) ks) kernels_are in
    contents_same_graph old now (sym (there ∙ is.back)) graph
  where
    made_of : List ℕ → List keeps.Contents → Contents
    made_of ns ks = record { limit = k.limit; numbers = ns; lists = ks; positions = k.positions }
