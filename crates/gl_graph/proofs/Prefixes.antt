-- What a list shows by the nodes at the front, and by all.
use Rattle.std.proofs.Common.{◌≡◌, ◌∙◌, ℕ, zero, suc, Bool, true, false, ltb, ◌<◌, ◌≤◌, List, [], ◌∷◌, length, take, refl, ap, sym, subst, arith}
use Rattle.std.specs.Prelude.{Some, slice_get, slice_index, unwrap_or}
use Rattle.std.specs.List.{Contains}
use Rattle.std.proofs.lemmas.Option.{slice_get_past}
use Rattle.std.proofs.lemmas.List.FromFn.{length-map-range_with_len}
use Rattle.std.proofs.lemmas.Bool.{ltb-true, ltb-false}
use Rattle.spec_states.specs.State.{State, inputs, own_at, dependency_order}
use Rattle.spec_states.specs.Laws.{IsOrdered}
use Rattle.spec_states.specs.Shown.{shown_of, shown, shows_in, settled, nothing_shown, table_of}
use Rattle.spec_states.proofs.Views.{IsInward, shown_local, shown_in, length-table_of}
use Rattle.gl_graph.specs.declared.node.Node.{Node}
use Rattle.gl_graph.specs.Nodes.{own_of, own_in, state_of, numbers, shown_by, OnInput, IsPlaced, AreInTurn, IsSettled, AreSettled, StandsFor}
use Rattle.gl_graph.specs.Graph.{IsGraph}
use Rattle.gl_graph.proofs.Inputs.{inward, each_input, stands_local}
use Rattle.gl_graph.proofs.Shown.{turn_shows, placed_before}

-- the node of a number
pub record IsNodeOf (nodes : List Node) (position list : ℕ) : Type 0 where
  pub node : Node
  pub is : slice_get nodes position ≡ Some node
  pub same : node.list ≡ list

pub node_of : (nodes : List Node) (position list : ℕ) → slice_get (numbers nodes) position ≡ Some list → IsNodeOf nodes position list
node_of [] position list e = absurd cc
node_of (n ∷ nodes) zero list e = record { node = n; is = refl; same = cc }
node_of (n ∷ nodes) (suc position) list e = let h = node_of nodes position list e in record { node = h.node; is = h.is; same = h.same }

pub get_node_prefix : (nodes : List Node) (n k : ℕ) (node : Node) → slice_get (take n nodes) k ≡ Some node → (slice_get nodes k ≡ Some node) × (k < n)
get_node_prefix nodes zero k node e = absurd cc
get_node_prefix [] (suc n) k node e = absurd cc
get_node_prefix (m ∷ nodes) (suc n) zero node e = (e, omega arith)
get_node_prefix (m ∷ nodes) (suc n) (suc k) node e = let h = get_node_prefix nodes n k node e in (h.0, (let lower : k < n = h.1 in omega (arith, lower)))

get_node_within : (nodes : List Node) (n k : ℕ) (node : Node) → k < n → slice_get nodes k ≡ Some node → slice_get (take n nodes) k ≡ Some node
get_node_within nodes zero k node h e = absurd (omega (arith, h))
get_node_within [] (suc n) k node h e = e
get_node_within (m ∷ nodes) (suc n) zero node h e = e
get_node_within (m ∷ nodes) (suc n) (suc k) node h e = get_node_within nodes n k node (omega arith) e

pub number_at : (nodes : List Node) (k : ℕ) (node : Node) → slice_get nodes k ≡ Some node → slice_get (numbers nodes) k ≡ Some node.list
number_at [] k node e = absurd cc
number_at (m ∷ nodes) zero node e = let same : m ≡ node = cc in ap (λ (x : Node). Some x.list) same
number_at (m ∷ nodes) (suc k) node e = number_at nodes k node e

take_lower : (nodes : List Node) (p n : ℕ) → p ≤ n → take p (take n nodes) ≡ take p nodes
take_lower nodes zero n h = refl
take_lower nodes (suc p) zero h = absurd (omega (arith, h))
take_lower [] (suc p) (suc n) h = refl
take_lower (m ∷ nodes) (suc p) (suc n) h = ap (λ xs. m ∷ xs) (take_lower nodes p n (omega arith))

-- the nodes at the beginning of nodes in turn are in turn
pub prefix_order : (nodes : List Node) (positions : List ℕ) (n : ℕ) → AreInTurn nodes positions → AreInTurn (take n nodes) positions
prefix_order nodes positions n dependency_order position node is =
    let found = get_node_prefix nodes n position node is in
    let turn = dependency_order position node found.0 in
    let lower : position < n = found.1 in
    record {
      within = turn.within;
      placed = turn.placed;
      later = subst (λ xs. OnInput (IsPlaced xs positions) node.keeps) (sym (take_lower nodes position n (omega (arith, lower)))) turn.later;
      among = turn.among;
    }

placed_lower : (nodes : List Node) (positions : List ℕ) (p n i : ℕ) → p ≤ n → IsPlaced (take p nodes) positions i → IsPlaced (take n nodes) positions i
placed_lower nodes positions p n i h placed = (placed_before (take n nodes) positions p i (subst (λ xs. IsPlaced xs positions i) (sym (take_lower nodes p n h)) placed)).0

-- a list shows the same by the nodes at the front as by all
pub prefix_shows : (nodes : List Node) (positions : List ℕ) (n list : ℕ) → AreInTurn nodes positions → IsPlaced (take n nodes) positions list → shown_by (take n nodes) positions list ≡ shown_by nodes positions list
prefix_shows nodes positions n list dependency_order placed = by_position (suc (slice_index positions list)) list (omega arith) placed
  where
    by_position : (m i : ℕ) → slice_index positions i < m → IsPlaced (take n nodes) positions i → shown_by (take n nodes) positions i ≡ shown_by nodes positions i
    by_position zero i below at = absurd (omega (arith, below))
    by_position (suc m) i below at =
        let p : ℕ = slice_index positions i in
        let h = node_of (take n nodes) p i at.there in
        let node = h.node in
        let found = get_node_prefix nodes n p node h.is in
        let lower : p < n = found.1 in
        let before = shown_by (take n nodes) positions in
        let after = shown_by nodes positions in
        let short : before node.list ≡ shown_of (own_of node.keeps) before = turn_shows (take n nodes) positions p node (prefix_order nodes positions n dependency_order) h.is in
        let long : after node.list ≡ shown_of (own_of node.keeps) after = turn_shows nodes positions p node dependency_order found.0 in
        let inner : (j : ℕ) → Contains (inputs (own_of node.keeps)) j → before j ≡ after j =
        λ j c.
        let there : IsPlaced (take p nodes) positions j = each_input (IsPlaced (take p nodes) positions) node.keeps j (dependency_order p node found.0).later c in
        let below_p : slice_index positions j < p = (placed_before nodes positions p j there).1 in
        by_position m j (omega (arith, below, below_p)) (placed_lower nodes positions p n j (omega (arith, lower)) there) in
        subst (λ l. before l ≡ after l) h.same (short ∙ (shown_local (own_of node.keeps) (inward node.keeps (dependency_order p node found.0).among) before after inner ∙ sym long))

-- what the nodes of a graph show is what its state shows
pub graph_shows : (limit : ℕ) (nodes : List Node) (positions : List ℕ) (list : ℕ) → IsGraph limit nodes positions → shown_by nodes positions list ≡ shown (state_of nodes positions) list
graph_shows limit nodes positions list h =
    let s : State = state_of nodes positions in
    ap (λ ks. shows_in (settled s (nothing_shown s) ks) list) (sym h.order)

pub past_shows : (nodes : List Node) (positions : List ℕ) (list : ℕ) → length positions ≤ list → shown (state_of nodes positions) list ≡ []
past_shows nodes positions list past =
    let s : State = state_of nodes positions in
    let long : length (table_of s) ≡ length positions = length-table_of s ∙ length-map-range_with_len (own_in nodes positions) 0 (length positions) in
    ap (λ o. unwrap_or o []) (slice_get_past (table_of s) list (omega (arith, long, past)))

-- a settled list is within the limit of deltas
pub placed_few : (nodes : List Node) (positions : List ℕ) (list : ℕ) → AreSettled nodes positions → IsPlaced nodes positions list → length (shown_by nodes positions list) ≤ 2147483647
placed_few nodes positions list settled placed =
    let h = node_of nodes (slice_index positions list) list placed.there in
    subst (λ l. length (shown_by nodes positions l) ≤ 2147483647) h.same (settled (slice_index positions list) h.node h.is).few

-- one node more that stands for what its input shows
pub settled_more : (nodes : List Node) (positions : List ℕ) (n : ℕ) (node : Node) → AreInTurn nodes positions → AreSettled (take n nodes) positions → slice_get nodes n ≡ Some node
    → StandsFor node.keeps (shown_by (take n nodes) positions) → length (shown_of (own_of node.keeps) (shown_by (take n nodes) positions)) ≤ 2147483647 → AreSettled (take (suc n) nodes) positions
settled_more nodes positions n node dependency_order settled is stands few position other at = by_position (ltb position n) refl
  where
    more : AreInTurn (take (suc n) nodes) positions
    more = prefix_order nodes positions (suc n) dependency_order

    same : (i : ℕ) → IsPlaced (take n nodes) positions i → shown_by (take n nodes) positions i ≡ shown_by (take (suc n) nodes) positions i
    same i placed = prefix_shows nodes positions n i dependency_order placed ∙ sym (prefix_shows nodes positions (suc n) i dependency_order (placed_lower nodes positions n (suc n) i (omega arith) placed))

    found : (slice_get nodes position ≡ Some other) × (position < suc n)
    found = get_node_prefix nodes (suc n) position other at

    old : position < n → IsSettled (take (suc n) nodes) positions position other
    old lower =
        let there : slice_get (take n nodes) position ≡ Some other = get_node_within nodes n position other lower found.0 in
        let was = settled position other there in
        let turn = dependency_order position other found.0 in
        let here : IsPlaced (take n nodes) positions other.list =
        record { within = turn.within; there = subst (λ p. slice_get (numbers (take n nodes)) p ≡ Some other.list) (sym turn.placed) (number_at (take n nodes) position other there) } in
        record {
          turn = more position other at;
          stands = stands_local other.keeps (shown_by (take n nodes) positions) (shown_by (take (suc n) nodes) positions) turn.among
              (λ i c. same i (placed_lower nodes positions position n i (omega (arith, lower)) (each_input (IsPlaced (take position nodes) positions) other.keeps i turn.later c))) was.stands;
          few = subst (λ xs. length xs ≤ 2147483647) (same other.list here) was.few;
        }

    new : position ≡ n → IsSettled (take (suc n) nodes) positions position other
    new e =
        let one : other ≡ node = (let both : Some other ≡ Some node = sym found.0 ∙ (ap (λ p. slice_get nodes p) e ∙ is) in cc) in
        let turn = dependency_order position other found.0 in
        let fit : (i : ℕ) → Contains (inputs (own_of other.keeps)) i → shown_by (take n nodes) positions i ≡ shown_by (take (suc n) nodes) positions i =
        λ i c. same i (placed_lower nodes positions position n i (omega (arith, e)) (each_input (IsPlaced (take position nodes) positions) other.keeps i turn.later c)) in
        let stands_here : StandsFor other.keeps (shown_by (take n nodes) positions) = subst (λ (m : Node). StandsFor m.keeps (shown_by (take n nodes) positions)) (sym one) stands in
        let few_here : length (shown_of (own_of other.keeps) (shown_by (take n nodes) positions)) ≤ 2147483647 = subst (λ (m : Node). length (shown_of (own_of m.keeps) (shown_by (take n nodes) positions)) ≤ 2147483647) (sym one) few in
        record {
          turn = more position other at;
          stands = stands_local other.keeps (shown_by (take n nodes) positions) (shown_by (take (suc n) nodes) positions) turn.among fit stands_here;
          few = subst (λ xs. length xs ≤ 2147483647)
              (shown_local (own_of other.keeps) (inward other.keeps turn.among) (shown_by (take n nodes) positions) (shown_by (take (suc n) nodes) positions) fit ∙ sym (turn_shows (take (suc n) nodes) positions position other more at)) few_here;
        }

    by_position : (t : Bool) → ltb position n ≡ t → IsSettled (take (suc n) nodes) positions position other
    by_position true e = old (ltb-true position n e)
    by_position false e = let high : n ≤ position = ltb-false position n e in let low : position < suc n = found.1 in new (omega (arith, high, low))

-- where the nodes keep what the lists of an ordered state keep, they show what these show
pub agrees : (nodes : List Node) (positions : List ℕ) (s : State) → AreInTurn nodes positions → IsOrdered s → IsInward s → length s ≡ length positions
    → ((p : ℕ) (n : Node) → slice_get nodes p ≡ Some n → own_of n.keeps ≡ own_at s n.list)
    → (list : ℕ) → IsPlaced nodes positions list → shown_by nodes positions list ≡ shown s list
agrees nodes positions s dependency_order ordered plain long own list placed = by_position (suc (slice_index positions list)) list (omega arith) placed
  where
    by_position : (m i : ℕ) → slice_index positions i < m → IsPlaced nodes positions i → shown_by nodes positions i ≡ shown s i
    by_position zero i below at = absurd (omega (arith, below))
    by_position (suc m) i below at =
        let p : ℕ = slice_index positions i in
        let h = node_of nodes p i at.there in
        let node = h.node in
        let turn = dependency_order p node h.is in
        let inner : (j : ℕ) → Contains (inputs (own_of node.keeps)) j → shown_by nodes positions j ≡ shown s j =
        λ j c.
        let there : IsPlaced (take p nodes) positions j = each_input (IsPlaced (take p nodes) positions) node.keeps j turn.later c in
        let before = placed_before nodes positions p j there in
        let below_p : slice_index positions j < p = before.1 in
        by_position m j (omega (arith, below, below_p)) before.0 in
        let within : node.list < length s = (let low : node.list < length positions = turn.within in omega (arith, low, long)) in
        let here : shown_by nodes positions node.list ≡ shown s node.list =
        turn_shows nodes positions p node dependency_order h.is
        ∙ (shown_local (own_of node.keeps) (inward node.keeps turn.among) (shown_by nodes positions) (shown s) inner
        ∙ (ap (λ o. shown_of o (shown s)) (own p node h.is) ∙ sym (shown_in s ordered plain node.list within))) in
        subst (λ l. shown_by nodes positions l ≡ shown s l) h.same here
