-- How the lists of a plan open one after another.
use Rattle.std.specs.Prelude.{◌≡◌, ◌<◌, ◌≤◌, ◌++◌, ◌∷◌, ⊤, [], ℕ, List, length, map, take, slice_get, Some, None}
use Rattle.spec_states.specs.Tree.{Tree}
use Rattle.spec_states.specs.ListDecl.{ListDecl}
use Rattle.spec_states.specs.Reply.TheVariants as reply
use Rattle.spec_states.specs.State.{Own, State, own_at, opening_of, dependency_order}
use Rattle.spec_states.specs.Step.{too_long}
use Rattle.spec_states.specs.Laws.{IsSound}
use Rattle.spec_states.specs.Shown.{shown_of, shown}
use Rattle.spec_states.specs.Opening.{seen_through}
use Rattle.gl_graph.specs.declared.node.Node.{Node}
use Rattle.gl_graph.specs.declared.start.DependencyOrder.{DependencyOrder}
use Rattle.gl_graph.specs.declared.fault.BuildFault.{BuildFault}
use Rattle.gl_graph.specs.declared.fault.BuildFault.TheVariants.{TooLong, Memory}
use Rattle.gl_graph.specs.Nodes.{own_of, numbers, shown_by, state_of, StandsFor, AreSettled}
use Rattle.gl_graph.specs.Positions.{ArePositions}
use Rattle.gl_graph.specs.Graph.{IsLimited, IsGraph}

-- one node more, of a list that keeps this and isn't too long
pub record IsOneMore (limit : ℕ) (positions : List ℕ) (list : ℕ) (own : Own)
    (before after : List Node) : Type 0 where
  pub node : Node
  pub is : after ≡ before ++ node ∷ []
  pub list_is : node.list ≡ list
  pub own_is : own_of node.keeps ≡ own
  pub stands : StandsFor node.keeps (shown_by before positions)
  pub limited : IsLimited limit node.keeps
  pub within : length (shown_of own (shown_by before positions)) ≤ limit

-- the list would show so many elements, which are too many
abbrev pub IsFault : ℕ → ℕ → ℕ → BuildFault → Type 0
IsFault limit list len (TooLong number n) = (number ≡ list) × (n ≡ len) × (limit < len)
IsFault limit list len Memory = ⊤

-- the nodes of the first lists in an order, which keep what the state says
pub record AreOpened (limit : ℕ) (s : State) (positions order : List ℕ) (k : ℕ)
    (nodes : List Node) : Type 0 where
  pub order_is : numbers nodes ≡ take k order
  pub settled : AreSettled nodes positions
  pub own : (p : ℕ) (n : Node) → slice_get nodes p ≡ Some n → own_of n.keeps ≡ own_at s n.list
  pub limited : (p : ℕ) (n : Node) → slice_get nodes p ≡ Some n → IsLimited limit n.keeps
  pub within : (p : ℕ) (n : Node) → slice_get nodes p ≡ Some n
      → length (shown_by nodes positions n.list) ≤ limit

-- what the lists of a plan show before anything happens
abbrev pub shown_before : List ListDecl → ℕ → List Tree
shown_before lists = shown (map (λ (d : ListDecl). seen_through d.kind) lists)

-- what they open with
abbrev pub opened_lists : List ListDecl → State
opened_lists lists = map (λ (d : ListDecl). opening_of (shown_before lists) d.kind) lists

-- the lists may be opened in this order, which is that of their dependencies, with these places
pub record AreReady (limit : ℕ) (lists : List ListDecl) (positions order : List ℕ) : Type 0 where
  pub few_lists : length lists ≤ 256
  pub few : limit ≤ 2147483647
  pub sound : IsSound (opened_lists lists)
  pub order_is : order ≡ dependency_order (opened_lists lists)
  pub long : length positions ≡ length lists
  pub positions_are : ArePositions positions order (length lists)

-- why lists that open so aren't opened
abbrev pub IsReason : ℕ → State → BuildFault → Type 0
IsReason limit s (TooLong list len) = too_long limit s ≡ Some (reply.TooLong list len)
IsReason limit s Memory = ⊤

-- the nodes are a graph of what these lists open with, none of which is too long
pub record AreOpen (limit : ℕ) (lists : List ListDecl) (nodes : List Node)
    (positions : List ℕ) : Type 0 where
  pub state_is : state_of nodes positions ≡ opened_lists lists
  pub few : too_long limit (opened_lists lists) ≡ None
  pub graph : IsGraph limit nodes positions

-- the lists may be opened in turn
abbrev pub AreDependencyOrder : DependencyOrder → Type 0
AreDependencyOrder t = AreReady t.limit t.lists.now t.positions.items t.order.now

-- those at the first k places of the order are open
abbrev pub AreOpenTo : DependencyOrder → ℕ → List Node → Type 0
AreOpenTo t k nodes =
    AreOpened t.limit (opened_lists t.lists.now) t.positions.items t.order.now k nodes

-- all are
abbrev pub AllAreOpen : DependencyOrder → List Node → Type 0
AllAreOpen t nodes = AreOpen t.limit t.lists.now nodes t.positions.items

-- why they can't all be
abbrev pub IsReasonOf : DependencyOrder → BuildFault → Type 0
IsReasonOf t fault = IsReason t.limit (opened_lists t.lists.now) fault
