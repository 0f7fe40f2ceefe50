-- What the nodes of a graph keep and show.
use Rattle.std.specs.Prelude.{◌≡◌, ◌<◌, ◌≤◌, ⊤, ℕ, List, [], length, map, take, slice_get, slice_index, Option, Some, None}
use Rattle.std.specs.List.{range_with_len}
use Rattle.spec_states.specs.Tree.{Tree}
use Rattle.std.specs.List.{All, Contains}
use Rattle.spec_states.specs.State.{Own, State, source, over, composite, proxy}
use Rattle.spec_states.specs.Shown.{nothing_shown, settled, shows_in}
use Rattle.gl_graph.specs.declared.keeps.Keeps.{Keeps}
use Rattle.gl_graph.specs.declared.keeps.Keeps.TheVariants.{Source, Over, Composite, Held, Proxy}
use Rattle.gl_composite.specs.Stands as composite_stands
use Rattle.gl_graph.specs.declared.node.Node.{Node}
use Rattle.gl_graph.specs.Derived.{view_of_derived}
use Rattle.gl_graph.specs.Derived as derived
use Rattle.gl_graph.specs.Held.{own_of_held}
use Rattle.gl_graph.specs.Held as held_list

-- what a list keeps, as the state has it
abbrev pub own_of : Keeps → Own
own_of (Source k) = source k.values
own_of (Over input d) = over input (view_of_derived d)
own_of (Composite needed k) = composite needed k.lists
own_of (Held input h) = own_of_held input h
own_of (Proxy input p) = proxy input p.values p.queue

-- the list stands for what its inputs show
abbrev pub StandsFor : Keeps → (ℕ → List Tree) → Type 0
StandsFor (Source k) shows = ⊤
StandsFor (Over input d) shows = derived.StandsFor d (shows input)
StandsFor (Composite needed k) shows = composite_stands.StandsFor k shows
StandsFor (Held input h) shows = held_list.StandsFor h (shows input)
StandsFor (Proxy input p) shows = ⊤

-- the same of all that it keeps beside what the state has of it
abbrev pub KernelStandsFor : Keeps → (ℕ → List Tree) → Type 0
KernelStandsFor (Source k) shows = ⊤
KernelStandsFor (Over input d) shows = derived.StandsFor d (shows input)
KernelStandsFor (Composite needed k) shows = composite_stands.StandsFor k shows
KernelStandsFor (Held input h) shows = ⊤
KernelStandsFor (Proxy input p) shows = ⊤

-- said of each list that a list depends on
abbrev pub OnInput : (ℕ → Type 0) → Keeps → Type 0
OnInput P (Source k) = ⊤
OnInput P (Over input d) = P input
OnInput P (Composite needed k) = All P needed
OnInput P (Held input h) = P input
OnInput P (Proxy input p) = P input

-- the members of a composite are among these
abbrev pub AreAmong : Keeps → Type 0
AreAmong (Source k) = ⊤
AreAmong (Over input d) = ⊤
AreAmong (Composite needed k) = All (λ list. Contains needed list) k.lists
AreAmong (Held input h) = ⊤
AreAmong (Proxy input p) = ⊤

-- the numbers of the nodes, in their order
abbrev pub numbers : List Node → List ℕ
numbers nodes = map (λ (n : Node). n.list) nodes

-- what the list of a node keeps; without a node an empty source
abbrev pub own_of_node : Option Node → Own
own_of_node None = source []
own_of_node (Some node) = own_of node.keeps

-- what the list of this number keeps, where each list has its place among the nodes
abbrev pub own_in : List Node → List ℕ → ℕ → Own
own_in nodes positions list = own_of_node (slice_get nodes (slice_index positions list))

-- the state that the nodes make; lists whose nodes are missing are empty sources
abbrev pub state_of : List Node → List ℕ → State
state_of nodes positions = map (own_in nodes positions) (range_with_len 0 (length positions))

-- what a list shows by these nodes alone
abbrev pub shown_by : List Node → List ℕ → ℕ → List Tree
shown_by nodes positions list =
    shows_in
    (settled (state_of nodes positions) (nothing_shown (state_of nodes positions))
    (numbers nodes)) list

-- the list has its place among the nodes
pub record IsPlaced (nodes : List Node) (positions : List ℕ) (list : ℕ) : Type 0 where
  pub within : list < length positions
  pub there : slice_get (numbers nodes) (slice_index positions list) ≡ Some list

-- the node stands at its place, after the lists that it follows
pub record IsInTurn (nodes : List Node) (positions : List ℕ) (position : ℕ) (node : Node) : Type 0
  where
    pub within : node.list < length positions
    pub placed : slice_index positions node.list ≡ position
    pub later : OnInput (IsPlaced (take position nodes) positions) node.keeps
    pub among : AreAmong node.keeps

-- every node does
abbrev pub AreInTurn : List Node → List ℕ → Type 0
AreInTurn nodes positions =
    (position : ℕ) (node : Node) → slice_get nodes position ≡ Some node
    → IsInTurn nodes positions position node

-- the node is in turn, and stands for what its inputs show, within the limit of deltas
pub record IsSettled (nodes : List Node) (positions : List ℕ) (position : ℕ) (node : Node) : Type 0
  where
    pub turn : IsInTurn nodes positions position node
    pub stands : StandsFor node.keeps (shown_by nodes positions)
    pub few : length (shown_by nodes positions node.list) ≤ 2147483647

-- every node is settled
abbrev pub AreSettled : List Node → List ℕ → Type 0
AreSettled nodes positions =
    (position : ℕ) (node : Node) → slice_get nodes position ≡ Some node
    → IsSettled nodes positions position node
