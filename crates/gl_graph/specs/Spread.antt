-- How a wave spreads through the nodes of a graph, from the list where its wave begins on, one place after another.
use Rattle.std.specs.Prelude.{◌≡◌, ◌≢◌, ◌<◌, ◌≤◌, ◌⊎◌, ⊤, ℕ, true, false, [], List, length, drop, take, slice_get, slice_index, slice_index_or, slice_set, Option, Some, None, Result, IfOk, IfErr, OnErr}
use Rattle.std.specs.List.{Contains}
use Rattle.spec_states.specs.Tree.{Tree}
use Rattle.spec_states.specs.Piece.{old_len}
use Rattle.spec_states.specs.Delta.{Delta, no_change}
use Rattle.spec_states.specs.Leads.{LeadsFrom, LeadsTo, undone}
use Rattle.spec_states.specs.Reply.TheVariants as reply
use Rattle.gl_source.specs.Model.{DeltaModel}
use Rattle.spec_states.specs.State.{Own, State, transaction, inputs, own_at}
use Rattle.spec_states.specs.Shown.{shown, shown_of, is_held}
use Rattle.spec_states.specs.Wave.{Cause, subject, kept_by, kept_later, begun_with, follow, wave, wave_deltas, delta_in}
use Rattle.gl_graph.specs.declared.node.Node.{Node}
use Rattle.gl_graph.specs.declared.keeps.Keeps.{Keeps}
use Rattle.gl_graph.specs.declared.keeps.Keeps.TheVariants.{Source, Held, Proxy}
use Rattle.gl_graph.specs.declared.keeps.KeepsUndo.{KeepsUndo}
use Rattle.gl_graph.specs.declared.turned.Turned.{Turned}
use Rattle.gl_graph.specs.declared.turned.Turned.TheVariants.{Stays, Silent, Told}
use Rattle.gl_graph.specs.declared.rollback.Rollback.{Rollback}
use Rattle.gl_graph.specs.declared.graph.Refused.{Refused}
use Rattle.gl_graph.specs.declared.graph.Refused.TheVariants.{OutOfRange, TooLong, AlreadyFrozen, NotFrozen, NotOpen, Memory}
use Rattle.gl_graph.specs.Nodes.{own_of, numbers, shown_by, state_of, OnInput, AreAmong, StandsFor, KernelStandsFor, IsPlaced, AreInTurn, AreSettled}
use Rattle.gl_held.specs.declared.undo.HeldUndo.{HeldUndo}
use Rattle.gl_graph.specs.declared.held.Held.{Held as HeldList}
use Rattle.gl_graph.specs.declared.held.Held.TheVariants as h
use Rattle.gl_graph.specs.Held as held_list
use Rattle.gl_graph.specs.Held.{own_of_held, composed_with}
use Rattle.gl_graph.specs.declared.keeps.KeepsUndo.TheVariants as u
use Rattle.gl_graph.specs.Causes.{SuitsCause, IsPlain, refused_of, refusal_of, begin_at}
use Rattle.gl_graph.specs.Rollbacks.{IsRollback, IsSourceOf, start_at}
use Rattle.gl_graph.specs.Graph.{limit_of, IsLimited, IsGraph}
use Rattle.gl_graph.specs.Room.{IsNoMore}
use Rattle.gl_graph.specs.Undos.{contents, room_of, IsUndo}
use Rattle.gl_graph.specs.Waves.{IsTold, Made, contents_of, before_all, by_position, AreApart, CanAllGoBack, HaveRoomBack}

-- ---- what lists are told of those before them

-- the delta of a list that now has so many elements: none changes where nothing is told
abbrev pub delta_of : Option DeltaModel → ℕ → Delta
delta_of None len = no_change len
delta_of (Some d) len = d.pieces

-- of each number's list, by what it shows now
abbrev pub delta_told : List (Option DeltaModel) → (ℕ → List Tree) → ℕ → Delta
delta_told deltas shows i = delta_of (slice_index_or deltas i None) (length (shows i))

-- what it showed before
abbrev pub shown_before : List (Option DeltaModel) → (ℕ → List Tree) → ℕ → List Tree
shown_before deltas shows i = undone (delta_told deltas shows i) (shows i)

-- something is told of an input
pub record IsReached (deltas : List (Option DeltaModel)) (own : Own) : Type 0 where
  pub input : ℕ
  pub among : Contains (inputs own) input
  pub d : DeltaModel
  pub told : slice_index_or deltas input None ≡ Some d

-- ---- what becomes of one list

-- a list keeps this in place of what it kept, stands for what its inputs show, and has its way back
pub record HasTurned (shows : ℕ → List Tree) (own : Own) (old new : Keeps) (undo : KeepsUndo) : Type 0
  where
    pub stands : KernelStandsFor new shows
    pub own_is : own_of new ≡ own
    pub limit : limit_of new ≡ limit_of old
    pub is_undo : IsUndo undo old new

-- and tells this
pub record HasTold (shows : ℕ → List Tree) (own : Own) (delta : Delta) (old new : Keeps)
    (d : DeltaModel) (undo : KeepsUndo) : Type 0 where
  pub told : d.pieces ≡ delta
  pub turned : HasTurned shows own old new undo

-- what a list keeps that a delta takes back
abbrev pub put_back : ℕ → Own → Delta → Own
put_back list own d = kept_later list own (λ i. d)

-- the source of a rollback takes the delta that it begins with
abbrev pub IsSourceStep : (ℕ → List Tree) → Delta → ℕ → Keeps → Keeps → Turned → Type 0
IsSourceStep shows back list old new Stays = ⊥
IsSourceStep shows back list old new (Silent undo) = ⊥
IsSourceStep shows back list old new (Told d undo) =
    HasTold shows (put_back list (own_of old) back) back old new d undo

-- the list that a cause is about takes it: it tells the delta with which the wave begins there, or nothing where it doesn't
pub record IsQuietOwn (shows : ℕ → List Tree) (cause : Cause) (list : ℕ) (old new : Keeps)
    (undo : KeepsUndo) : Type 0 where
  pub inside : refused_of (own_of old) cause ≡ None
  pub elsewhere : begin_at cause list (own_of old) ≢ Some list
  pub turned : HasTurned shows (kept_by cause shows (own_of old)) old new undo

pub record IsToldOwn (shows : ℕ → List Tree) (cause : Cause) (list : ℕ) (old new : Keeps)
    (d : DeltaModel) (undo : KeepsUndo) : Type 0 where
  pub inside : refused_of (own_of old) cause ≡ None
  pub here : begin_at cause list (own_of old) ≡ Some list
  pub told : HasTold shows (kept_by cause shows (own_of old)) (begun_with cause (own_of old) shows) old new
      d undo

abbrev pub IsOwnStep : (ℕ → List Tree) → Cause → ℕ → Keeps → Keeps → Turned → Type 0
IsOwnStep shows cause list old new Stays = ⊥
IsOwnStep shows cause list old new (Silent undo) = IsQuietOwn shows cause list old new undo
IsOwnStep shows cause list old new (Told d undo) = IsToldOwn shows cause list old new d undo

-- what a list keeps with one open level less
abbrev pub one_less : Own → Own
one_less (transaction input levels) = transaction input (drop 1 levels)
one_less other = other

-- the list drops its innermost level
abbrev pub HasDropped : Keeps → Keeps → Turned → Type 0
HasDropped old new (Silent undo) =
    (shows : ℕ → List Tree) → HasTurned shows (one_less (own_of old)) old new undo
HasDropped old new other = ⊥

-- a list that can be held has taken a command, which tells this
abbrev pub turned_by : Option DeltaModel → HeldUndo → Turned
turned_by None undo = Silent (u.Held undo)
turned_by (Some d) undo = Told d (u.Held undo)

-- a list that can be held keeps a delta of its input while it is held, and else tells it
abbrev pub HasKept : DeltaModel → HeldList → HeldList → Turned → Type 0
HasKept d old new (Silent (u.Held undo)) =
    ((input : ℕ) → is_held (own_of_held input old) ≡ true)
    × ((held_list.contents new ≡ composed_with d.pieces old) × held_list.IsUndo undo old new)
HasKept d old new (Told out u.Unchanged) =
    ((input : ℕ) → is_held (own_of_held input old) ≡ false)
    × ((new ≡ old) × (out.pieces ≡ d.pieces))
HasKept d old new other = ⊥

-- the list is a proxy, which takes nothing until it is pumped
abbrev pub IsCopy : Keeps → Type 0
IsCopy (Proxy input p) = ⊤
IsCopy other = ⊥

-- any other list is as it was where nothing is told of its inputs, and so is a proxy; else one that is held keeps what they tell,
-- and one that isn't follows
pub record IsLeft (deltas : List (Option DeltaModel)) (old new : Keeps) : Type 0 where
  pub same : new ≡ old
  pub untold : OnInput (λ i. slice_index_or deltas i None ≡ None) old ⊎ IsCopy old

pub record IsKeeping (shows : ℕ → List Tree) (deltas : List (Option DeltaModel)) (list : ℕ)
    (old new : Keeps) (undo : KeepsUndo) : Type 0 where
  pub reached : IsReached deltas (own_of old)
  pub held : is_held (own_of old) ≡ true
  pub turned : HasTurned shows (kept_later list (own_of old) (delta_told deltas shows)) old new undo

pub record IsFollowing (shows : ℕ → List Tree) (deltas : List (Option DeltaModel)) (old new : Keeps)
    (d : DeltaModel) (undo : KeepsUndo) : Type 0 where
  pub reached : IsReached deltas (own_of old)
  pub free : is_held (own_of old) ≡ false
  pub told : HasTold shows (own_of old)
      (follow (own_of old) (shown_before deltas shows) (delta_told deltas shows)) old new d undo

abbrev pub IsOtherStep : (ℕ → List Tree) → List (Option DeltaModel) → ℕ → Keeps → Keeps → Turned
    → Type 0
IsOtherStep shows deltas list old new Stays = IsLeft deltas old new
IsOtherStep shows deltas list old new (Silent undo) = IsKeeping shows deltas list old new undo
IsOtherStep shows deltas list old new (Told d undo) = IsFollowing shows deltas old new d undo

-- what becomes of a list in a wave, where this is told of those before it
pub data IsStep (rollback : Option Rollback) (shows : ℕ → List Tree) (cause : Cause)
    (deltas : List (Option DeltaModel)) (list : ℕ) (old new : Keeps) (turned : Turned) : Type 0 where
  at_source : (back : Rollback) → rollback ≡ Some back → list ≡ back.source
      → IsSourceStep shows back.delta.pieces list old new turned
      → IsStep rollback shows cause deltas list old new turned
  at_own : list ≡ subject cause → IsOwnStep shows cause list old new turned
      → IsStep rollback shows cause deltas list old new turned
  at_other : list ≢ subject cause → ¬ IsSourceOf list rollback
      → IsOtherStep shows deltas list old new turned
      → IsStep rollback shows cause deltas list old new turned

-- a list that keeps this would show so many elements, which are too many
pub record IsLong (limit : ℕ) (shows : ℕ → List Tree) (own : Own) (len : ℕ) : Type 0 where
  pub past : limit < len
  pub len_is : len ≡ length (shown_of own shows)

-- why what a list keeps refuses a cause
abbrev pub IsRefusalOf : Own → Cause → Refused → Type 0
IsRefusalOf own cause (OutOfRange index len) = refused_of own cause ≡ Some (reply.OutOfRange index len)
IsRefusalOf own cause (TooLong number len) = ⊥
IsRefusalOf own cause AlreadyFrozen = refused_of own cause ≡ Some reply.AlreadyFrozen
IsRefusalOf own cause NotFrozen = refused_of own cause ≡ Some reply.NotFrozen
IsRefusalOf own cause NotOpen = refused_of own cause ≡ Some reply.NotOpen
IsRefusalOf own cause Memory = ⊤

-- why the source of a rollback doesn't change: taken back it would be too long
abbrev pub IsSourceStopped : ℕ → (ℕ → List Tree) → Delta → ℕ → Own → Refused → Type 0
IsSourceStopped limit shows back list own (TooLong number len) =
    (number ≡ list) × IsLong limit shows (put_back list own back) len
IsSourceStopped limit shows back list own Memory = ⊤
IsSourceStopped limit shows back list own other = ⊥

-- why the list doesn't change that a cause is about: it refuses it, or takes it and would be too long
abbrev pub IsOwnStopped : ℕ → (ℕ → List Tree) → Cause → ℕ → Own → Refused → Type 0
IsOwnStopped limit shows cause list own (TooLong number len) =
    (number ≡ list) × ((refused_of own cause ≡ None) × IsLong limit shows (kept_by cause shows own) len)
IsOwnStopped limit shows cause list own other = IsRefusalOf own cause other

-- why another one doesn't: it follows and would be too long
abbrev pub IsOtherStopped : ℕ → (ℕ → List Tree) → List (Option DeltaModel) → ℕ → Own → Refused
    → Type 0
IsOtherStopped limit shows deltas list own (TooLong number len) =
    (number ≡ list)
    × ((IsReached deltas own × (is_held own ≡ false)) × IsLong limit shows own len)
IsOtherStopped limit shows deltas list own Memory = ⊤
IsOtherStopped limit shows deltas list own other = ⊥

-- why a list doesn't change
pub data IsStopped (limit : ℕ) (rollback : Option Rollback) (shows : ℕ → List Tree) (cause : Cause)
    (deltas : List (Option DeltaModel)) (list : ℕ) (own : Own) (why : Refused) : Type 0 where
  source_stops : (back : Rollback) → rollback ≡ Some back → list ≡ back.source
      → IsSourceStopped limit shows back.delta.pieces list own why
      → IsStopped limit rollback shows cause deltas list own why
  own_stops : list ≡ subject cause → IsOwnStopped limit shows cause list own why
      → IsStopped limit rollback shows cause deltas list own why
  other_stops : list ≢ subject cause → ¬ IsSourceOf list rollback
      → IsOtherStopped limit shows deltas list own why
      → IsStopped limit rollback shows cause deltas list own why

-- a list changes, or is as it was
pub record IsTried (rollback : Option Rollback) (shows : ℕ → List Tree) (cause : Cause)
    (deltas : List (Option DeltaModel)) (list : ℕ) (old new : Keeps)
    (result : Result Turned Refused) : Type 0 where
  pub ok : IfOk result (IsStep rollback shows cause deltas list old new)
  pub err : OnErr result (contents new ≡ contents old)
  pub stopped : (limit : ℕ) → IsLimited limit old
      → IfErr result (IsStopped limit rollback shows cause deltas list (own_of old))
  pub room : OnErr result (IsNoMore (room_of old) (room_of new))

-- a source that can be taken back by a delta
abbrev pub CanTakeBack : Delta → Keeps → Type 0
CanTakeBack d (Source k) = LeadsFrom d k.values
CanTakeBack d other = ⊥

-- a list with an open level
abbrev pub HasLevel : Keeps → Type 0
HasLevel (Held input (h.Transaction t)) = 0 < length t.levels
HasLevel other = ⊥

-- the list that a cause is about is rolled back: the wave begins elsewhere
pub record CanRoll (cause : Cause) (list : ℕ) (keeps : Keeps) : Type 0 where
  pub suits : SuitsCause cause (own_of keeps)
  pub rollback : ¬ IsPlain cause
  pub inside : refused_of (own_of keeps) cause ≡ None
  pub elsewhere : begin_at cause list (own_of keeps) ≢ Some list
  pub level : HasLevel keeps

-- or can take it
pub record CanTake (shows : ℕ → List Tree) (cause : Cause) (keeps : Keeps) : Type 0 where
  pub suits : SuitsCause cause (own_of keeps)
  pub plain : IsPlain cause
  pub stands : StandsFor keeps shows

-- by what is told of its inputs, another one can follow
pub record CanFollow (shows : ℕ → List Tree) (deltas : List (Option DeltaModel)) (keeps : Keeps)
    : Type 0 where
  pub leads : OnInput (λ i. LeadsTo (delta_told deltas shows i) (shows i)) keeps
  pub stood : StandsFor keeps (shown_before deltas shows)

-- the list can be turned by a cause, where this is told of those before it
pub record CanTurn (rollback : Option Rollback) (shows : ℕ → List Tree) (cause : Cause)
    (deltas : List (Option DeltaModel)) (list : ℕ) (keeps : Keeps) : Type 0 where
  pub within : OnInput (λ i. i < length deltas) keeps
  pub source : (back : Rollback) → rollback ≡ Some back → list ≡ back.source
      → CanTakeBack back.delta.pieces keeps
  pub rolled : (back : Rollback) → rollback ≡ Some back → list ≡ subject cause → CanRoll cause list keeps
  pub own : rollback ≡ None → list ≡ subject cause → CanTake shows cause keeps
  pub other : list ≢ subject cause → ¬ IsSourceOf list rollback → CanFollow shows deltas keeps

-- ---- the nodes

-- at a place there is now this node
pub record IsSetAt (position : ℕ) (old new : List Node) (was now : Node) : Type 0 where
  pub there : slice_get old position ≡ Some was
  pub is : new ≡ slice_set old position now
  pub list : now.list ≡ was.list

-- the nodes with the one at a place tried
pub record IsTriedAt (rollback : Option Rollback) (positions : List ℕ) (cause : Cause)
    (deltas : List (Option DeltaModel)) (position : ℕ) (old new : List Node)
    (result : Result Turned Refused) : Type 0 where
  pub was : Node
  pub now : Node
  pub set : IsSetAt position old new was now
  pub tried : IsTried rollback (shown_by (take position old) positions) cause deltas was.list was.keeps
      now.keeps result

-- the node at a place can be turned
pub record CanTurnAt (rollback : Option Rollback) (positions : List ℕ) (cause : Cause)
    (deltas : List (Option DeltaModel)) (position : ℕ) (nodes : List Node) : Type 0 where
  pub node : Node
  pub there : slice_get nodes position ≡ Some node
  pub settled : AreSettled (take position nodes) positions
  pub later : OnInput (IsPlaced (take position nodes) positions) node.keeps
  pub among : AreAmong node.keeps
  pub can : CanTurn rollback (shown_by (take position nodes) positions) cause deltas node.list node.keeps

-- the list at a place, whose node is there, stands for what the lists before it show
pub record StandAt (positions : List ℕ) (position : ℕ) (nodes : List Node) : Type 0 where
  pub settled : AreSettled (take position nodes) positions
  pub node : Node
  pub there : slice_get nodes position ≡ Some node
  pub later : OnInput (IsPlaced (take position nodes) positions) node.keeps
  pub stands : StandsFor node.keeps (shown_by (take position nodes) positions)

-- how many elements it shows; without a node none
abbrev pub len_by : Option Node → (ℕ → List Tree) → ℕ
len_by None shows = 0
len_by (Some node) shows = length (shown_of (own_of node.keeps) shows)

abbrev pub shown_len_at : List ℕ → ℕ → List Node → ℕ
shown_len_at positions position nodes =
    len_by (slice_get nodes position) (shown_by (take position nodes) positions)

-- the list where a wave begins stands before a place
abbrev pub HasBegun : List ℕ → Option Rollback → Cause → ℕ → Type 0
HasBegun positions rollback cause position = slice_index positions (start_at rollback cause) < position

-- a graph within its limit, a cause for one of its lists, and what it takes back if it is a rollback
pub record IsBegun (limit : ℕ) (old : List Node) (positions : List ℕ) (cause : Cause)
    (rollback : Option Rollback) : Type 0 where
  pub graph : IsGraph limit old positions
  pub within : subject cause < length (state_of old positions)
  pub suits : SuitsCause cause (own_at (state_of old positions) (subject cause))
  pub is_rollback : IsRollback (state_of old positions) cause rollback

-- the nodes once the wave has come as far as a place
pub record AreInverse (limit : ℕ) (old : List Node) (positions : List ℕ) (cause : Cause)
    (rollback : Option Rollback) (position : ℕ) (nodes : List Node) : Type 0 where
  pub numbers_are : numbers nodes ≡ numbers old
  pub dependency_order : AreInTurn nodes positions
  pub settled : AreSettled (take position nodes) positions
  pub own : (p : ℕ) (n : Node) → p < position → slice_get nodes p ≡ Some n
      → own_of n.keeps ≡ own_at (wave (state_of old positions) cause) n.list
  pub rest : (p : ℕ) → position ≤ p → slice_get nodes p ≡ slice_get old p
  pub limited : (p : ℕ) (n : Node) → slice_get nodes p ≡ Some n → IsLimited limit n.keeps
  pub few : (list : ℕ) → list < length positions → slice_index positions list < position
      → length (shown (wave (state_of old positions) cause) list) ≤ limit
  pub inside : HasBegun positions rollback cause position → refusal_of (state_of old positions) cause ≡ None

-- what is told of the lists that stand before a place: nothing while the wave hasn't begun
pub record AreToldTo (s : State) (positions : List ℕ) (cause : Cause) (rollback : Option Rollback)
    (position : ℕ) (told : List (Option DeltaModel)) : Type 0 where
  pub long : length told ≡ length positions
  pub each : (list : ℕ) → list < length positions → slice_index positions list < position
      → IsTold (length (shown s list)) (delta_in (wave_deltas s cause) list)
      (slice_index_or told list None)
  pub same : (list : ℕ) → list < length positions → slice_index positions list < position
      → slice_index_or told list None ≡ None → shown (wave s cause) list ≡ shown s list
  pub others : (list : ℕ) → list < length positions → position ≤ slice_index positions list
      → slice_index_or told list None ≡ None
  pub quiet : ¬ HasBegun positions rollback cause position → (list : ℕ)
      → slice_index_or told list None ≡ None

-- the undos, by place, lead back to the nodes that there were, and can be made
pub record LeadBack (old nodes : List Node) (undos : List (Option KeepsUndo)) : Type 0 where
  pub numbers_are : numbers nodes ≡ numbers old
  pub back : before_all undos nodes ≡ contents_of old
  pub can : CanAllGoBack undos nodes
  pub room : HaveRoomBack [] old undos nodes

-- the same of undos in the order in which they were made
pub record HaveBack (old nodes : List Node) (made : Made) : Type 0 where
  pub lead : LeadBack old nodes (by_position (length nodes) made)
  pub apart : AreApart (length nodes) made

-- the wave has come as far as a place
pub record IsSpread (limit : ℕ) (old : List Node) (positions : List ℕ) (cause : Cause)
    (rollback : Option Rollback) (position : ℕ) (nodes : List Node) (told : List (Option DeltaModel))
    (made : Made) : Type 0 where
  pub begun : IsBegun limit old positions cause rollback
  pub inverted : AreInverse limit old positions cause rollback position nodes
  pub told_to : AreToldTo (state_of old positions) positions cause rollback position told
  pub back : HaveBack old nodes made
  pub waiting : (p : ℕ) → position ≤ p → p < length nodes
      → slice_get (by_position (length nodes) made) p ≡ Some None

-- a delta is put under its list, unless nothing changes
abbrev pub IsPut : ℕ → DeltaModel → List (Option DeltaModel) → List (Option DeltaModel) → Type 0
IsPut list d old new =
    ((d.pieces ≡ no_change (old_len d.pieces))
    × (new ≡ old)) ⊎ ((d.pieces ≢ no_change (old_len d.pieces))
    × (new ≡ slice_set old list (Some d)))

-- the list would show so many elements, which are too many
abbrev pub IsOver : ℕ → ℕ → ℕ → Refused → Type 0
IsOver limit list len (OutOfRange index n) = ⊥
IsOver limit list len (TooLong number n) = (number ≡ list) × ((n ≡ len) × (limit < len))
IsOver limit list len other = ⊥

-- the wave has come so far from some nodes
pub record IsSpreading (limit : ℕ) (positions : List ℕ) (cause : Cause) (rollback : Option Rollback)
    (position : ℕ) (nodes : List Node) (told : List (Option DeltaModel)) (made : Made) : Type 0
  where
    pub old : List Node
    pub is : IsSpread limit old positions cause rollback position nodes told made
