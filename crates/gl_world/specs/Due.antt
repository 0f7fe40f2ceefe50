-- What proxies are due at the end of an entry, and what they keep once they have queued it.
use Rattle.std.specs.Prelude.{◌≡◌, ◌≢◌, ◌<◌, ⊤, ℕ, if◌then◌else◌, List, length, Option, Some, None, option_map, slice_get, slice_index_or}
use Rattle.spec_states.specs.Delta.{Delta, is_identity}
use Rattle.spec_states.specs.ListDecl.{ListDecl}
use Rattle.spec_states.specs.ListKind.{ListKind}
use Rattle.spec_states.specs.ListKind.TheVariants.{Proxy}
use Rattle.spec_states.specs.State.{Own, State, own_at}
use Rattle.gl_delta.specs.Model.{DeltaModel}
use Rattle.gl_graph.specs.Graph.{Kept, state_of}
use Rattle.gl_graph.specs.Queues.{IsProxy, LeadsOn, HasQueueRoom, with_one_queued}

-- a delta may be queued for a list of this kind: a proxy's input has a number below this, and what it keeps is a proxy's
abbrev pub MayQueue : ℕ → ListKind → Own → Type 0
MayQueue lists (Proxy input) own = (input < lists) × IsProxy own
MayQueue lists other own = ⊤

-- the delta of an input, if there is one, unless it is the identity
abbrev pub due_delta : Option DeltaModel → Option Delta
due_delta None = None
due_delta (Some d) = if is_identity d.pieces then None else Some d.pieces

-- what a list of this kind is due, where these are the deltas of the lists
abbrev pub due_from : List (Option DeltaModel) → ListKind → Option Delta
due_from deltas (Proxy input) = due_delta (slice_index_or deltas input None)
due_from deltas other = None

-- what a list is due, by number
abbrev pub due_at : List (Option DeltaModel) → ℕ → Option Delta
due_at due list = option_map (λ (d : DeltaModel). d.pieces) (slice_index_or due list None)

-- each list is due what its kind says
pub record AreDue (lists : List ListDecl) (deltas due : List (Option DeltaModel)) : Type 0 where
  pub long : length due ≡ length lists
  pub each : (list : ℕ) (d : ListDecl) → slice_get lists list ≡ Some d
      → due_at due list ≡ due_from deltas d.kind

-- the list of a number is due this now, and the others what they were
pub record IsDueAt (list : ℕ) (delta : Option Delta) (old new : List (Option DeltaModel)) : Type 0
  where
    pub long : length new ≡ length old
    pub here : due_at new list ≡ delta
    pub others : (k : ℕ) → k ≢ list → slice_index_or new k None ≡ slice_index_or old k None

-- each list that is due something has room for it
abbrev pub HaveQueueRoom : List (Option DeltaModel) → Kept → Type 0
HaveQueueRoom due k = (list : ℕ) (d : DeltaModel) → slice_index_or due list None ≡ Some d
    → HasQueueRoom list k

-- they have room still
abbrev pub KeepsQueueRoom : List (Option DeltaModel) → Kept → List (Option DeltaModel) → Kept
    → Type 0
KeepsQueueRoom old before new now = HaveQueueRoom old before → HaveQueueRoom new now

-- what each list is due can be queued
pub record CanQueue (due : List (Option DeltaModel)) (k : Kept) : Type 0 where
  pub leads : (list : ℕ) (d : DeltaModel) → slice_index_or due list None ≡ Some d
      → LeadsOn d.pieces (own_at (state_of k) list)
  pub room : HaveQueueRoom due k

-- what a list keeps once it has queued what it is due
abbrev pub with_due : Option DeltaModel → Own → Own
with_due None own = own
with_due (Some d) own = with_one_queued d.pieces own

-- the list of a number has queued what it was due, and the others are as they were
pub record IsQueuedAt (list : ℕ) (due : List (Option DeltaModel)) (before : Kept)
    (left : List (Option DeltaModel)) (now : Kept) : Type 0 where
  pub long : length left ≡ length due
  pub many : length (state_of now) ≡ length (state_of before)
  pub limit : now.limit ≡ before.limit
  pub gone : slice_index_or left list None ≡ None
  pub here : own_at (state_of now) list
      ≡ with_due (slice_index_or due list None) (own_at (state_of before) list)
  pub rest : (k : ℕ) → k ≢ list → slice_index_or left k None ≡ slice_index_or due k None
  pub others : (k : ℕ) → k ≢ list → own_at (state_of now) k ≡ own_at (state_of before) k
  pub can : CanQueue left now

-- each list has queued what it was due
pub record AreQueued (due : List (Option DeltaModel)) (before now : State) : Type 0 where
  pub long : length now ≡ length before
  pub each : (list : ℕ) → list < length due
      → own_at now list ≡ with_due (slice_index_or due list None) (own_at before list)
