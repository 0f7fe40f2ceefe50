-- What a graph keeps.
use Rattle.std.specs.Prelude.{◌≡◌, ◌<◌, ◌≤◌, ⊤, ℕ, List, length, slice_get, Option, Some, None}
use Rattle.spec_states.specs.State.{State, dependency_order}
use Rattle.spec_states.specs.Step.{too_long}
use Rattle.spec_states.specs.Laws.{IsSound}
use Rattle.gl_graph.specs.declared.keeps.Keeps.{Keeps}
use Rattle.gl_graph.specs.declared.keeps.Keeps.TheVariants.{Source, Over, Composite, Held, Proxy}
use Rattle.gl_graph.specs.declared.node.Node.{Node}
use Rattle.gl_graph.specs.Derived as derived
use Rattle.gl_graph.specs.Nodes.{numbers, IsPlaced, AreSettled}
use Rattle.gl_graph.specs.Nodes as made

-- how many elements a list may have, the nodes in dependency order, and the place of each list among them
pub record Kept : Type 0 where
  pub limit : ℕ
  pub nodes : List Node
  pub positions : List ℕ

-- the state that it is in
abbrev pub state_of : Kept → State
state_of k = made.state_of k.nodes k.positions

-- how many elements a list may have, where it goes by that
abbrev pub limit_of : Keeps → Option ℕ
limit_of (Source k) = Some k.limit
limit_of (Over input d) = derived.limit_of d
limit_of (Composite needed k) = Some k.limit
limit_of (Held input h) = None
limit_of (Proxy input p) = None

-- if it goes by a limit, it may have so many elements
abbrev pub IsLimit : ℕ → Option ℕ → Type 0
IsLimit limit None = ⊤
IsLimit limit (Some most) = most ≡ limit

abbrev pub IsLimited : ℕ → Keeps → Type 0
IsLimited limit keeps = IsLimit limit (limit_of keeps)

-- Each list has its place, the state is one that plans have, the nodes stand in the dependency order, each for what its input
-- shows, and no list is too long.
pub record IsGraph (limit : ℕ) (nodes : List Node) (positions : List ℕ) : Type 0 where
  pub few_lists : length positions ≤ 256
  pub few : limit ≤ 2147483647
  pub placed : (list : ℕ) → list < length positions → IsPlaced nodes positions list
  pub sound : IsSound (made.state_of nodes positions)
  pub order : dependency_order (made.state_of nodes positions) ≡ numbers nodes
  pub settled : AreSettled nodes positions
  pub limited : (position : ℕ) (node : Node) → slice_get nodes position ≡ Some node
      → IsLimited limit node.keeps
  pub within : too_long limit (made.state_of nodes positions) ≡ None
