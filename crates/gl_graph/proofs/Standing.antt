-- A list that has been turned, seen through the nodes before it.
use Rattle.std.proofs.Common.{◌≡◌, ◌∙◌, ℕ, List, length, take, ap, sym, subst}
use Rattle.std.specs.Prelude.{Some, slice_get, slice_index_or}
use Rattle.std.proofs.lemmas.Option.{get_or_from_slice_get}
use Rattle.gl_graph.specs.declared.node.Node.{Node}
use Rattle.spec_states.specs.Shown.{shown_of}
use Rattle.gl_graph.specs.Nodes.{own_of, shown_by, OnInput, StandsFor, IsPlaced}
use Rattle.gl_graph.specs.Spread.{StandAt, len_by, shown_len_at}

pub same_node : (positions : List ℕ) (position : ℕ) (nodes : List Node) (a b : Node) → slice_get nodes position ≡ Some a → slice_get nodes position ≡ Some b → a ≡ b
same_node positions position nodes a b e f = let both : Some a ≡ Some b = sym e ∙ f in cc

-- the node that stands there
pub index_at : (positions : List ℕ) (position : ℕ) (nodes : List Node) (here : Node) → StandAt positions position nodes → here ≡ slice_index_or nodes position here
    → slice_get nodes position ≡ Some here
index_at positions position nodes here stand e = stand.there ∙ ap (λ (n : Node). Some n) (sym (e ∙ get_or_from_slice_get nodes position stand.node here stand.there))

pub later_at : (positions : List ℕ) (position : ℕ) (nodes : List Node) (node : Node) → StandAt positions position nodes → slice_get nodes position ≡ Some node
    → OnInput (IsPlaced (take position nodes) positions) node.keeps
later_at positions position nodes node stand at =
    subst (λ (n : Node). OnInput (IsPlaced (take position nodes) positions) n.keeps) (same_node positions position nodes stand.node node stand.there at) stand.later

pub stands_at : (positions : List ℕ) (position : ℕ) (nodes : List Node) (node : Node) → StandAt positions position nodes → slice_get nodes position ≡ Some node
    → StandsFor node.keeps (shown_by (take position nodes) positions)
stands_at positions position nodes node stand at =
    subst (λ (n : Node). StandsFor n.keeps (shown_by (take position nodes) positions)) (same_node positions position nodes stand.node node stand.there at) stand.stands

-- how many elements it shows
pub len_here : (positions : List ℕ) (position n : ℕ) (nodes front : List Node) (node : Node) → StandAt positions position nodes → slice_get nodes position ≡ Some node → front ≡ nodes
    → (StandsFor node.keeps (shown_by (take position front) positions) → n ≡ length (shown_of (own_of node.keeps) (shown_by (take position front) positions)))
    → n ≡ shown_len_at positions position nodes
len_here positions position n nodes front node stand at same len =
    len (subst (λ ns. StandsFor node.keeps (shown_by (take position ns) positions)) (sym same) (stands_at positions position nodes node stand at))
    ∙ (ap (λ ns. len_by (Some node) (shown_by (take position ns) positions)) same ∙ ap (λ o. len_by o (shown_by (take position nodes) positions)) (sym at))
