-- Graphs that differ in the room of their kernels alone.
use mathlib.Core.Path.{fun_ext}
use Rattle.std.proofs.Common.{◌≡◌, ◌∙◌, ℕ, zero, suc, ◌<◌, ◌≤◌, List, [], ◌∷◌, length, map, take, refl, ap, subst}
use Rattle.std.specs.Prelude.{Some, None, slice_get, slice_index}
use Rattle.std.specs.List.{range_with_len}
use Rattle.spec_states.specs.Tree.{Tree}
use Rattle.spec_states.specs.State.{State, dependency_order}
use Rattle.spec_states.specs.Step.{too_long}
use Rattle.spec_states.specs.Shown.{nothing_shown, settled, shows_in}
use Rattle.spec_states.specs.Laws.{IsSound}
use Rattle.gl_graph.specs.declared.node.Node.{Node}
use Rattle.gl_graph.specs.Nodes.{own_of_node, own_in, state_of, numbers, shown_by, OnInput, StandsFor, IsPlaced, IsInTurn, IsSettled}
use Rattle.gl_graph.specs.Undos as keeps
use Rattle.gl_graph.specs.Graph.{IsGraph}
use Rattle.gl_graph.specs.Waves.{contents_of}
use Rattle.gl_graph.proofs.Rooms.{own_same, stands_same, limited_same, on_input_same, on_input_more, among_same}

-- the node of another list at the same place
record Twin (nodes : List Node) (position : ℕ) (node : Node) : Type 0 where
  pub other : Node
  pub is : slice_get nodes position ≡ Some other
  pub list_is : other.list ≡ node.list
  pub contents_are : keeps.contents other.keeps ≡ keeps.contents node.keeps

twin : (a b : List Node) → numbers a ≡ numbers b → contents_of a ≡ contents_of b → (position : ℕ) (node : Node)
    → slice_get b position ≡ Some node → Twin a position node
twin a [] e f position node is = absurd cc
twin [] (n ∷ b) e f position node is = absurd cc
twin (m ∷ a) (n ∷ b) e f zero node is =
    let same : n ≡ node = cc in
    let number : m.list ≡ n.list = cc in
    let contents : keeps.contents m.keeps ≡ keeps.contents n.keeps = cc in
    subst (λ x. Twin (m ∷ a) 0 x) same (record { other = m; is = refl; list_is = number; contents_are = contents })
twin (m ∷ a) (n ∷ b) e f (suc position) node is =
    let numbers_are : numbers a ≡ numbers b = cc in
    let contents_are : contents_of a ≡ contents_of b = cc in
    let t = twin a b numbers_are contents_are position node is in
    record { other = t.other; is = t.is; list_is = t.list_is; contents_are = t.contents_are }

own_at_position : (a b : List Node) → contents_of a ≡ contents_of b → (position : ℕ)
    → own_of_node (slice_get a position) ≡ own_of_node (slice_get b position)
own_at_position [] [] e position = refl
own_at_position [] (n ∷ b) e position = absurd cc
own_at_position (m ∷ a) [] e position = absurd cc
own_at_position (m ∷ a) (n ∷ b) e zero = (let same : keeps.contents m.keeps ≡ keeps.contents n.keeps = cc in own_same m.keeps n.keeps same)
own_at_position (m ∷ a) (n ∷ b) e (suc position) = (let rest : contents_of a ≡ contents_of b = cc in own_at_position a b rest position)

-- they make the same state
pub state_same : (a b : List Node) (positions : List ℕ) → contents_of a ≡ contents_of b
    → state_of a positions ≡ state_of b positions
state_same a b positions e =
    let own : own_in a positions ≡ own_in b positions = fun_ext (λ list. own_at_position a b e (slice_index positions list)) in
    ap (λ f. map f (range_with_len 0 (length positions))) own

-- and show the same
shows_same : (a b : List Node) (positions : List ℕ) → numbers a ≡ numbers b → contents_of a ≡ contents_of b
    → shown_by a positions ≡ shown_by b positions
shows_same a b positions e f =
    ap (λ (s : State). λ (list : ℕ). shows_in (settled s (nothing_shown s) (numbers a)) list) (state_same a b positions f)
    ∙ ap (λ (ns : List ℕ). λ (list : ℕ). shows_in (settled (state_of b positions) (nothing_shown (state_of b positions)) ns) list) e

numbers_prefix : (a b : List Node) (n : ℕ) → numbers a ≡ numbers b → numbers (take n a) ≡ numbers (take n b)
numbers_prefix a b zero e = refl
numbers_prefix [] [] (suc n) e = refl
numbers_prefix [] (y ∷ b) (suc n) e = absurd cc
numbers_prefix (x ∷ a) [] (suc n) e = absurd cc
numbers_prefix (x ∷ a) (y ∷ b) (suc n) e =
    let first : x.list ≡ y.list = cc in
    let rest : numbers a ≡ numbers b = cc in
    ap (λ ns. x.list ∷ ns) (numbers_prefix a b n rest) ∙ ap (λ l. l ∷ numbers (take n b)) first

placed_same : (a b : List Node) (positions : List ℕ) → numbers a ≡ numbers b → (list : ℕ) → IsPlaced a positions list
    → IsPlaced b positions list
placed_same a b positions e list h = record { within = h.within; there = subst (λ ns. slice_get ns (slice_index positions list) ≡ Some list) e h.there }

turn_same : (a b : List Node) (positions : List ℕ) → numbers a ≡ numbers b → (position : ℕ) (m n : Node) → m.list ≡ n.list
    → keeps.contents m.keeps ≡ keeps.contents n.keeps
    → IsInTurn a positions position m → IsInTurn b positions position n
turn_same a b positions e position m n list_is contents_are turn =
    let later : OnInput (IsPlaced (take position a) positions) n.keeps = on_input_same (IsPlaced (take position a) positions) m.keeps n.keeps contents_are turn.later in
    record {
      within = subst (λ l. l < length positions) list_is turn.within;
      placed = subst (λ l. slice_index positions l ≡ position) list_is turn.placed;
      later = on_input_more (placed_same (take position a) (take position b) positions (numbers_prefix a b position e)) n.keeps later;
      among = among_same m.keeps n.keeps contents_are turn.among;
    }

settled_same : (a b : List Node) (positions : List ℕ) → numbers a ≡ numbers b → contents_of a ≡ contents_of b
    → (position : ℕ) (m n : Node) → m.list ≡ n.list → keeps.contents m.keeps ≡ keeps.contents n.keeps
    → IsSettled a positions position m → IsSettled b positions position n
settled_same a b positions e f position m n list_is contents_are h =
    let shows : shown_by a positions ≡ shown_by b positions = shows_same a b positions e f in
    let stands : StandsFor n.keeps (shown_by a positions) = stands_same (shown_by a positions) m.keeps n.keeps contents_are h.stands in
    let few : length (shown_by a positions n.list) ≤ 2147483647 = subst (λ l. length (shown_by a positions l) ≤ 2147483647) list_is h.few in
    record {
      turn = turn_same a b positions e position m n list_is contents_are h.turn;
      stands = subst (λ shown. StandsFor n.keeps shown) shows stands;
      few = subst (λ (shown : ℕ → List Tree). length (shown n.list) ≤ 2147483647) shows few;
    }

-- one is a graph where the other is
pub graph_same : (limit : ℕ) (a b : List Node) (positions : List ℕ) → numbers a ≡ numbers b
    → contents_of a ≡ contents_of b → IsGraph limit a positions → IsGraph limit b positions
graph_same limit a b positions e f g =
    let state : state_of a positions ≡ state_of b positions = state_same a b positions f in
    record {
      few_lists = g.few_lists;
      few = g.few;
      placed = λ list within. placed_same a b positions e list (g.placed list within);
      sound = subst (λ s. IsSound s) state g.sound;
      order = subst (λ s. dependency_order s ≡ numbers b) state (g.order ∙ e);
      settled = λ position node is. (let t = twin a b e f position node is in settled_same a b positions e f position t.other node t.list_is t.contents_are (g.settled position t.other t.is));
      limited = λ position node is. (let t = twin a b e f position node is in limited_same limit t.other.keeps node.keeps t.contents_are (g.limited position t.other t.is));
      within = subst (λ s. too_long limit s ≡ None) state g.within;
    }
