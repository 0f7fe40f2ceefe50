-- What a wave hands out: the delta of each list, and the way back.
use Rattle.std.specs.Prelude.{◌≡◌, ◌<◌, ⊤, ℕ, List, [], ◌∷◌, length, map, fold, replicate, slice_get, slice_set, slice_index_or, Option, Some, None}
use Rattle.spec_states.specs.Delta.{Delta, no_change}
use Rattle.spec_states.specs.Command.{Command}
use Rattle.spec_states.specs.Reply.{Reply}
use Rattle.spec_states.specs.Reply.TheVariants as reply
use Rattle.gl_source.specs.Model.{DeltaModel}
use Rattle.spec_states.specs.State.{State}
use Rattle.spec_states.specs.Shown.{shown}
use Rattle.spec_states.specs.Wave.{Cause, delta_in, wave_deltas}
use Rattle.spec_states.specs.Step.{unmoved}
use Rattle.gl_graph.specs.declared.node.Node.{Node}
use Rattle.gl_graph.specs.declared.keeps.Keeps.{Keeps}
use Rattle.gl_graph.specs.declared.keeps.KeepsUndo.{KeepsUndo}
use Rattle.gl_graph.specs.declared.graph.Refused.{Refused}
use Rattle.gl_graph.specs.declared.graph.Refused.TheVariants.{OutOfRange, TooLong, AlreadyFrozen, NotFrozen, NotOpen, Memory}
use Rattle.gl_graph.specs.declared.graph.GraphUndo.{GraphUndo}
use Rattle.gl_graph.specs.Causes.{unmoved_of}
use Rattle.gl_graph.specs.Nodes.{numbers}
use Rattle.gl_graph.specs.Graph.{Kept, IsGraph}
use Rattle.gl_graph.specs.Room.{Room, IsNoMore}
use Rattle.gl_graph.specs.Undos as keeps

-- what is told of a list of so many elements: a delta, or nothing where nothing changes
abbrev pub IsTold : ℕ → Delta → Option DeltaModel → Type 0
IsTold len delta None = delta ≡ no_change len
IsTold len delta (Some d) = (d.pieces ≡ delta) × ¬ (d.pieces ≡ no_change len)

-- of each list is told what a wave does to it
pub record AreTold (s : State) (cause : Cause) (told : List (Option DeltaModel)) : Type 0 where
  pub long : length told ≡ length s
  pub each : (list : ℕ) → list < length s
      → IsTold (length (shown s list)) (delta_in (wave_deltas s cause) list)
      (slice_index_or told list None)

-- this is why nothing moves, by the reply that says so
abbrev pub IsReply : Option Reply → Refused → Type 0
IsReply unmoved (OutOfRange index len) = unmoved ≡ Some (reply.OutOfRange index len)
IsReply unmoved (TooLong list len) = unmoved ≡ Some (reply.TooLong list len)
IsReply unmoved AlreadyFrozen = unmoved ≡ Some reply.AlreadyFrozen
IsReply unmoved NotFrozen = unmoved ≡ Some reply.NotFrozen
IsReply unmoved NotOpen = unmoved ≡ Some reply.NotOpen
IsReply unmoved Memory = ⊤

-- this is why a command makes no wave
abbrev pub IsRefused : ℕ → State → Command → Refused → Type 0
IsRefused limit s c why = IsReply (unmoved limit s c) why

-- this is why a cause makes none
abbrev pub IsStopping : ℕ → State → Cause → Refused → Type 0
IsStopping limit s cause why = IsReply (unmoved_of limit s cause) why

-- what lists keep, whatever their room
abbrev pub contents_of : List Node → List keeps.Contents
contents_of nodes = map (λ (n : Node). keeps.contents n.keeps) nodes

-- what an undo makes of a list; without an undo it stays
abbrev pub before_one : Option KeepsUndo → Keeps → keeps.Contents
before_one None k = keeps.contents k
before_one (Some undo) k = keeps.before undo k

-- how much the list then has room for
abbrev pub room_one : Option KeepsUndo → Keeps → Room
room_one None k = keeps.room_of k
room_one (Some undo) k = keeps.room_back undo k

-- the undo at a position, if there is one
abbrev pub undo_at : List (Option KeepsUndo) → ℕ → Option KeepsUndo
undo_at undos position = slice_index_or undos position None

-- with the ones undos taken from the one nodes, and the others from the others, no list has less room in these
abbrev pub HaveRoomBack : List (Option KeepsUndo) → List Node → List (Option KeepsUndo) → List Node
    → Type 0
HaveRoomBack undos nodes others more =
    (position : ℕ) (a b : Node) → slice_get nodes position ≡ Some a
    → slice_get more position ≡ Some b
    → IsNoMore (room_one (undo_at undos position) a.keeps)
    (room_one (undo_at others position) b.keeps)

-- no list has lost room
abbrev pub HaveRoomOf : List Node → List Node → Type 0
HaveRoomOf old new = HaveRoomBack [] old [] new

abbrev pub CanGoBack : Option KeepsUndo → Keeps → Type 0
CanGoBack None k = ⊤
CanGoBack (Some undo) k = keeps.CanRetreat undo k

-- what undos, by place, make of the nodes; those after the undos stay
abbrev pub before_all : List (Option KeepsUndo) → List Node → List keeps.Contents
before_all undos [] = []
before_all [] (n ∷ nodes) = keeps.contents n.keeps ∷ before_all [] nodes
before_all (undo ∷ undos) (n ∷ nodes) = before_one undo n.keeps ∷ before_all undos nodes

-- each of them can be made
abbrev pub CanAllGoBack : List (Option KeepsUndo) → List Node → Type 0
CanAllGoBack undos [] = ⊤
CanAllGoBack [] (n ∷ nodes) = ⊤
CanAllGoBack (undo ∷ undos) (n ∷ nodes) = CanGoBack undo n.keeps × CanAllGoBack undos nodes

-- the undos of lists that changed, each with its place, in the order in which they were made
abbrev pub Made : Type 0
Made = List (ℕ × KeepsUndo)

-- an undo under its place
abbrev pub put_undo : List (Option KeepsUndo) → ℕ × KeepsUndo → List (Option KeepsUndo)
put_undo undos made = slice_set undos made.0 (Some made.1)

-- such undos by place, where there are n places
abbrev pub by_position : ℕ → Made → List (Option KeepsUndo)
by_position n made = fold put_undo (replicate n None) made

-- each is at a place where there is none yet
abbrev pub AreApartFrom : List (Option KeepsUndo) → Made → Type 0
AreApartFrom undos [] = ⊤
AreApartFrom undos (one ∷ made) =
    (slice_get undos one.0 ≡ Some None) × AreApartFrom (put_undo undos one) made

abbrev pub AreApart : ℕ → Made → Type 0
AreApart n made = AreApartFrom (replicate n None) made

-- what a graph is, whatever the room of its lists
pub record Contents : Type 0 where
  pub limit : ℕ
  pub numbers : List ℕ
  pub lists : List keeps.Contents
  pub positions : List ℕ

abbrev pub contents : Kept → Contents
contents k =
    record {
      limit = k.limit;
      numbers = numbers k.nodes;
      lists = contents_of k.nodes;
      positions =
          k.positions;
    }

-- what an undo makes of a graph
abbrev pub before : GraphUndo → Kept → Contents
before undo k =
    record {
      limit = k.limit;
      numbers = numbers k.nodes;
      lists =
          before_all (by_position (length k.nodes) undo.made.items) k.nodes;
      positions = k.positions;
    }

-- the undo is of the graph's last change: it leads back to what the graph was, in no less room, and can be made
pub record IsUndo (undo : GraphUndo) (old new : Kept) : Type 0 where
  pub back : before undo new ≡ contents old
  pub room : HaveRoomBack [] old.nodes (by_position (length new.nodes) undo.made.items) new.nodes
  pub can : CanAllGoBack (by_position (length new.nodes) undo.made.items) new.nodes
  pub apart : AreApart (length new.nodes) undo.made.items

-- where the undo was taken from the one graph, no list has less room in the other than that leaves
abbrev pub IsAsRoomy : GraphUndo → Kept → Kept → Type 0
IsAsRoomy undo k new =
    HaveRoomBack (by_position (length k.nodes) undo.made.items) k.nodes [] new.nodes

-- the undo leads back to a graph, and can be made
pub record CanRetreat (undo : GraphUndo) (k : Kept) : Type 0 where
  pub old : Kept
  pub graph : IsGraph old.limit old.nodes old.positions
  pub is : IsUndo undo old k
