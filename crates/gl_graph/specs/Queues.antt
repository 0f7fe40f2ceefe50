-- What proxies are yet to take, and the room for it.
use Rattle.std.specs.Prelude.{◌≡◌, ◌++◌, ◌<◌, ⊤, ℕ, List, [], ◌∷◌, length, slice_get, slice_index, Option, Some, None}
use Rattle.spec_states.specs.Delta.{Delta}
use Rattle.spec_states.specs.State.{Own, proxy}
use Rattle.spec_states.specs.Laws.{LeadOnFrom}
use Rattle.gl_graph.specs.declared.node.Node.{Node}
use Rattle.gl_graph.specs.declared.keeps.Keeps.{Keeps}
use Rattle.gl_graph.specs.declared.keeps.Keeps.TheVariants.{Proxy}
use Rattle.gl_graph.specs.Nodes.{own_of}
use Rattle.gl_graph.specs.Graph.{Kept}
use Rattle.gl_graph.specs.Room.{IsNoMore}
use Rattle.gl_graph.specs.Undos.{contents, room_of}
use Rattle.gl_graph.specs.Spread.{IsSetAt}

-- a list that keeps this is a proxy
abbrev pub IsProxy : Own → Type 0
IsProxy (proxy input kept queue) = ⊤
IsProxy other = ⊥

-- what a proxy is yet to take; every other list has nothing to take
abbrev pub queue_of : Own → List Delta
queue_of (proxy input kept queue) = queue
queue_of other = []

-- a delta leads on from what a proxy comes to by its queue
abbrev pub LeadsOn : Delta → Own → Type 0
LeadsOn d (proxy input kept queue) = LeadOnFrom (queue ++ d ∷ []) kept
LeadsOn d other = ⊥

-- what a proxy keeps with one delta more in its queue
abbrev pub with_one_queued : Delta → Own → Own
with_one_queued d (proxy input kept queue) = proxy input kept (queue ++ d ∷ [])
with_one_queued d other = other

-- a list is a proxy, and its queue has room for one delta more
abbrev pub CanQueue : Keeps → Type 0
CanQueue (Proxy input p) = length p.queue < p.queue_room
CanQueue other = ⊥

abbrev pub CanQueueAt : Option Node → Type 0
CanQueueAt None = ⊥
CanQueueAt (Some node) = CanQueue node.keeps

-- the list of that number
abbrev pub HasQueueRoom : ℕ → Kept → Type 0
HasQueueRoom list k =
    (list < length k.positions) × CanQueueAt (slice_get k.nodes (slice_index k.positions list))

-- ---- the node at a place

-- it is a proxy's
pub record IsProxyAt (position : ℕ) (nodes : List Node) : Type 0 where
  pub node : Node
  pub there : slice_get nodes position ≡ Some node
  pub proxy : IsProxy (own_of node.keeps)

-- its queue has room for one delta more
pub record CanQueueIn (position : ℕ) (nodes : List Node) : Type 0 where
  pub node : Node
  pub there : slice_get nodes position ≡ Some node
  pub can : CanQueue node.keeps

-- a delta leads on from what it comes to by its queue
pub record LeadsOnAt (d : Delta) (position : ℕ) (nodes : List Node) : Type 0 where
  pub node : Node
  pub there : slice_get nodes position ≡ Some node
  pub leads : LeadsOn d (own_of node.keeps)

-- a list is what it was, and has no less room
pub record IsReserved (old new : Keeps) : Type 0 where
  pub same : contents new ≡ contents old
  pub room : IsNoMore (room_of old) (room_of new)

-- so is the list at a place
pub record IsReservedAt (position : ℕ) (old new : List Node) : Type 0 where
  pub was : Node
  pub now : Node
  pub set : IsSetAt position old new was now
  pub reserved : IsReserved was.keeps now.keeps

-- the proxy at a place has one delta more in its queue
pub record IsQueuedAt (d : Delta) (position : ℕ) (old new : List Node) : Type 0 where
  pub was : Node
  pub now : Node
  pub set : IsSetAt position old new was now
  pub own : own_of now.keeps ≡ with_one_queued d (own_of was.keeps)
