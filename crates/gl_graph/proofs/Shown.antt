-- Each node in its turn shows its view of what its input shows.
use Rattle.std.proofs.Common.{◌≡◌, ◌∙◌, ℕ, zero, suc, ◌<◌, List, [], ◌∷◌, ◌++◌, length, option_map, take, refl, ap, sym, subst, arith, inl, inr}
use Rattle.std.specs.Prelude.{pos, Option, Some, None, slice_get, slice_index, unwrap_or}
use Rattle.std.specs.List.{Contains}
use Rattle.std.proofs.Math.Seq.{take-append_seam}
use Rattle.std.proofs.lemmas.List.{append_assoc, map-append, length-map}
use Rattle.std.proofs.lemmas.List.Elements.{Contains-get_or}
use Rattle.std.proofs.lemmas.List.FromFn.{length-map-range_with_len}
use Rattle.std.proofs.lemmas.Option.{slice_get_within, get_or_from_slice_get, slice_get-map}
use Rattle.spec_states.proofs.Members.{Contains-cons_cases}
use Rattle.spec_states.specs.Tree.{Tree, num}
use Rattle.gl_kernels.specs.CollectionStands.{children_at}
use Rattle.spec_states.specs.State.{State, inputs, own_at}
use Rattle.spec_states.specs.Shown.{shown_of, nothing_shown}
use Rattle.spec_states.proofs.DependencyOrder.{Follow}
use Rattle.spec_states.proofs.Settled.{settled_is}
use Rattle.spec_states.proofs.Views.{shown_local}
use Rattle.gl_graph.specs.declared.spot.Spot.{Spot}
use Rattle.gl_graph.specs.Spots.{spotted}
use Rattle.gl_graph.specs.declared.len.Len.{Len}
use Rattle.gl_graph.specs.Lens.{measured}
use Rattle.gl_graph.specs.declared.keeps.Keeps.{Keeps}
use Rattle.gl_graph.specs.declared.node.Node.{Node}
use Rattle.gl_graph.specs.Nodes.{own_of, own_of_node, own_in, state_of, numbers, shown_by, OnInput, StandsFor, IsPlaced, IsInTurn, AreInTurn, AreSettled}
use Rattle.gl_graph.proofs.Inputs.{own_at_state, state_inward, each_input, on_inputs}

pub own_of_turn : (nodes : List Node) (positions : List ℕ) (position : ℕ) (node : Node) → slice_get nodes position ≡ Some node → IsInTurn nodes positions position node → own_at (state_of nodes positions) node.list ≡ own_of node.keeps
own_of_turn nodes positions position node is turn =
    own_at_state nodes positions node.list turn.within ∙ ap (λ p. own_of_node (slice_get nodes p)) turn.placed ∙ ap own_of_node is

-- a member by its place
pub member_at : (xs : List ℕ) (p x : ℕ) → slice_get xs p ≡ Some x → Contains xs x
member_at xs p x is = subst (λ y. Contains xs y) (get_or_from_slice_get xs p x 0 is) (Contains-get_or xs p 0 (slice_get_within xs p x is))

-- the inputs of a list are among the nodes before it
inputs_before : (before : List Node) (positions : List ℕ) (keeps : Keeps) (i : ℕ) → OnInput (IsPlaced before positions) keeps → Contains (inputs (own_of keeps)) i → Contains (numbers before) i
inputs_before before positions keeps i placed c =
    each_input (λ j. Contains (numbers before) j) keeps i
    (on_inputs (λ j. Contains (numbers before) j) keeps (λ j d. let there = each_input (IsPlaced before positions) keeps j placed d in
    member_at (numbers before) (slice_index positions j) j there.there)) c

get_at_seam : (before : List Node) (n : Node) (after : List Node) → slice_get (before ++ n ∷ after) (length before) ≡ Some n
get_at_seam [] n after = refl
get_at_seam (m ∷ before) n after = get_at_seam before n after

get_before : (before after : List Node) (k : ℕ) → k < length before → slice_get (before ++ after) k ≡ slice_get before k
get_before [] after k h = absurd (omega (arith, h))
get_before (n ∷ before) after zero h = refl
get_before (n ∷ before) after (suc k) h = get_before before after k (omega arith)

-- a node of a number that stands among these
record HasNode (nodes : List Node) (list : ℕ) : Type 0 where
  pub position : ℕ
  pub node : Node
  pub is : slice_get nodes position ≡ Some node
  pub same : node.list ≡ list
  pub within : position < length nodes

has_node : (nodes : List Node) (list : ℕ) → Contains (numbers nodes) list → HasNode nodes list
has_node [] list c = absurd (omega (arith, c.1))
has_node (n ∷ ns) list c = elim (Contains-cons_cases n.list (numbers ns) list c) [
  | inl e ↦ record { position = 0; node = n; is = refl; same = e; within = omega arith }
  | inr there ↦
      let h = has_node ns list there in
      record { position = suc h.position; node = h.node; is = h.is; same = h.same; within = omega (arith, h.within) }
]

-- nodes in turn follow what they depend on
pub follows : (nodes : List Node) (positions : List ℕ) → AreInTurn nodes positions → Follow (λ k. inputs (own_at (state_of nodes positions) k)) [] (numbers nodes)
follows nodes positions dependency_order = from [] nodes refl
  where
    needs : ℕ → List ℕ
    needs k = inputs (own_at (state_of nodes positions) k)

    from : (before after : List Node) → nodes ≡ before ++ after → Follow needs (numbers before) (numbers after)
    from before [] e = tt
    from before (n ∷ ns) e =
        let p : ℕ = length before in
        let is : slice_get nodes p ≡ Some n = ap (λ xs. slice_get xs p) e ∙ get_at_seam before n ns in
        let turn : IsInTurn nodes positions p n = dependency_order p n is in
        let prefix : take p nodes ≡ before = ap (take p) e ∙ take-append_seam before (n ∷ ns) in
        let own : own_at (state_of nodes positions) n.list ≡ own_of n.keeps = own_of_turn nodes positions p n is turn in
        let later : OnInput (IsPlaced before positions) n.keeps = subst (λ xs. OnInput (IsPlaced xs positions) n.keeps) prefix turn.later in
        let more : numbers (before ++ n ∷ []) ≡ numbers before ++ n.list ∷ [] = map-append (λ (m : Node). m.list) before (n ∷ []) in (
          λ i c. inputs_before before positions n.keeps i later (subst (λ o. Contains (inputs o) i) own c),
          (λ c. let h = has_node before n.list c in
              let old : slice_get nodes h.position ≡ Some h.node = ap (λ xs. slice_get xs h.position) e ∙ get_before before (n ∷ ns) h.position h.within ∙ h.is in
              let at : slice_index positions n.list ≡ h.position = ap (λ l. slice_index positions l) (sym h.same) ∙ (dependency_order h.position h.node old).placed in
              absurd (omega (arith, h.within, sym turn.placed ∙ at))),
          subst (λ xs. Follow needs xs (numbers ns)) more (from (before ++ n ∷ []) ns (e ∙ sym (append_assoc before (n ∷ []) ns))),
        )

-- each node shows its view
pub turn_shows : (nodes : List Node) (positions : List ℕ) (position : ℕ) (node : Node) → AreInTurn nodes positions → slice_get nodes position ≡ Some node
    → shown_by nodes positions node.list ≡ shown_of (own_of node.keeps) (shown_by nodes positions)
turn_shows nodes positions position node dependency_order is =
    let s : State = state_of nodes positions in
    let turn = dependency_order position node is in
    let long : length (nothing_shown s) ≡ length positions = length-map {B = List Tree} s (λ own. []) ∙ length-map-range_with_len (own_in nodes positions) 0 (length positions) in
    let number : slice_get (numbers nodes) position ≡ Some node.list = slice_get-map (λ (n : Node). n.list) nodes position ∙ ap (λ o. option_map (λ (n : Node). n.list) o) is in
    settled_is [] (λ list. inputs (own_at s list)) (λ list shows. shown_of (own_at s list) shows) (λ list f g same. shown_local (own_at s list) (state_inward nodes positions dependency_order list) f g same)
    (nothing_shown s) [] (numbers nodes) node.list (follows nodes positions dependency_order) (member_at (numbers nodes) position node.list number) (omega (arith, turn.within, long))
    ∙ ap (λ o. shown_of o (shown_by nodes positions)) (own_of_turn nodes positions position node is turn)

pub order_of_settled : (nodes : List Node) (positions : List ℕ) → AreSettled nodes positions → AreInTurn nodes positions
order_of_settled nodes positions h position node is = (h position node is).turn

-- what a list shows, by its node
pub list_shows : (nodes : List Node) (positions : List ℕ) (list : ℕ) (node : Node) → AreSettled nodes positions → slice_get nodes (slice_index positions list) ≡ Some node → node.list ≡ list
    → shown_by nodes positions list ≡ shown_of (own_of node.keeps) (shown_by nodes positions)
list_shows nodes positions list node h is same =
    subst (λ k. shown_by nodes positions k ≡ shown_of (own_of node.keeps) (shown_by nodes positions)) same
    (turn_shows nodes positions (slice_index positions list) node (order_of_settled nodes positions h) is)

-- how many elements it shows
pub measured_shows : (nodes : List Node) (positions : List ℕ) (list : ℕ) (node : Node) (at : Len) → AreSettled nodes positions → slice_get nodes (slice_index positions list) ≡ Some node → node.list ≡ list
    → ((shows : ℕ → List Tree) → StandsFor node.keeps shows → measured at shows ≡ length (shown_of (own_of node.keeps) shows))
    → measured at (shown_by nodes positions) ≡ length (shown_by nodes positions list)
measured_shows nodes positions list node at h is same len =
    len (shown_by nodes positions) (h (slice_index positions list) node is).stands ∙ ap length (sym (list_shows nodes positions list node h is same))

-- where its element stands
pub find_shows : (nodes : List Node) (positions : List ℕ) (list position : ℕ) (node : Node) (at : Option Spot) → AreSettled nodes positions → slice_get nodes (slice_index positions list) ≡ Some node → node.list ≡ list
    → ((shows : ℕ → List Tree) → StandsFor node.keeps shows → spotted at shows ≡ slice_get (shown_of (own_of node.keeps) shows) position)
    → spotted at (shown_by nodes positions) ≡ slice_get (shown_by nodes positions list) position
find_shows nodes positions list position node at h is same find =
    find (shown_by nodes positions) (h (slice_index positions list) node is).stands
    ∙ ap (λ xs. slice_get xs position) (sym (list_shows nodes positions list node h is same))

pub get_prefix : (xs : List ℕ) (n k x : ℕ) → slice_get (take n xs) k ≡ Some x → slice_get xs k ≡ Some x
get_prefix xs zero k x e = absurd cc
get_prefix [] (suc n) k x e = absurd cc
get_prefix (y ∷ ys) (suc n) zero x e = e
get_prefix (y ∷ ys) (suc n) (suc k) x e = get_prefix ys n k x e

pub numbers_prefix : (nodes : List Node) (n : ℕ) → numbers (take n nodes) ≡ take n (numbers nodes)
numbers_prefix nodes zero = refl
numbers_prefix [] (suc n) = refl
numbers_prefix (m ∷ nodes) (suc n) = ap (λ xs. m.list ∷ xs) (numbers_prefix nodes n)

-- a list before a place stands among the nodes, and lower
pub placed_before : (nodes : List Node) (positions : List ℕ) (n list : ℕ) → IsPlaced (take n nodes) positions list → IsPlaced nodes positions list × (slice_index positions list < n)
placed_before nodes positions n list placed =
    let at : ℕ = slice_index positions list in
    let there : slice_get (take n (numbers nodes)) at ≡ Some list = subst (λ xs. slice_get xs at ≡ Some list) (numbers_prefix nodes n) placed.there in
    (record { within = placed.within; there = get_prefix (numbers nodes) n at list there }, below (numbers nodes) n at there)
  where
    below : (xs : List ℕ) (m k : ℕ) → slice_get (take m xs) k ≡ Some list → k < m
    below xs zero k e = absurd cc
    below [] (suc m) k e = absurd cc
    below (x ∷ xs) (suc m) zero e = omega arith
    below (x ∷ xs) (suc m) (suc k) e = let h : k < m = below xs m k e in omega (arith, h)

-- an element of a list stands in a list before it
pub spot_before : (nodes : List Node) (positions : List ℕ) (list other : ℕ) (node : Node) → AreSettled nodes positions → slice_get nodes (slice_index positions list) ≡ Some node
    → Contains (inputs (own_of node.keeps)) other → IsPlaced nodes positions other × (slice_index positions other < slice_index positions list)
spot_before nodes positions list other node settled is c =
    let at : ℕ = slice_index positions list in
    placed_before nodes positions at other
    (each_input (IsPlaced (take at nodes) positions) node.keeps other (settled at node is).turn.later c)

-- the children of an element go by it alone, and there are none where there is none
pub no_children : (path : List ℕ) (xs : List Tree) (i : ℕ) → slice_get xs i ≡ None → children_at path xs i ≡ []
no_children path xs i e = ap (λ o. children_at path (unwrap_or o (num (pos 0)) ∷ []) 0) e ∙ of_number path
  where
    of_number : (path : List ℕ) → children_at path (num (pos 0) ∷ []) 0 ≡ []
    of_number [] = refl
    of_number (j ∷ path) = refl

pub children_of : (path : List ℕ) (xs : List Tree) (i : ℕ) (x : Tree) → slice_get xs i ≡ Some x → children_at path xs i ≡ children_at path (x ∷ []) 0
children_of path xs i x e = ap (λ o. children_at path (unwrap_or o (num (pos 0)) ∷ []) 0) e
