-- The lists of a plan open one after another.
use Rattle.std.proofs.Common.{◌≡◌, ◌∙◌, ℕ, zero, suc, ◌<◌, ◌≤◌, List, [], ◌∷◌, ◌++◌, length, take, refl, ap, sym, subst, arith, ◌⊎◌, inl, inr}
use Rattle.std.specs.Prelude.{Some, slice_get, slice_index}
use Rattle.std.proofs.Math.Seq.{take-append_seam}
use Rattle.std.proofs.lemmas.List.{map-append}
use Rattle.spec_states.specs.State.{Own, State, own_at}
use Rattle.spec_states.specs.Shown.{shown_of}
use Rattle.gl_graph.specs.declared.node.Node.{Node}
use Rattle.gl_graph.specs.Nodes.{own_of, numbers, shown_by, OnInput, AreAmong, IsPlaced, IsInTurn, AreInTurn, AreSettled, StandsFor}
use Rattle.gl_graph.specs.Graph.{IsLimited}
use Rattle.gl_graph.specs.Build.{IsOneMore, AreOpened}
use Rattle.gl_graph.proofs.Shown.{order_of_settled, turn_shows}
use Rattle.gl_graph.proofs.Prefixes.{settled_more, prefix_shows, number_at}
use Rattle.gl_graph.proofs.Inputs.{inward, among_inward, each_input}
use Rattle.spec_states.proofs.Views.{Inward, shown_local}

-- an item of a list with one more
last_or_old : (nodes : List Node) (node other : Node) (p : ℕ) → slice_get (nodes ++ node ∷ []) p ≡ Some other
    → ((p < length nodes) × (slice_get nodes p ≡ Some other)) ⊎ ((p ≡ length nodes) × (node ≡ other))
last_or_old [] node other zero e = inr (refl, cc)
last_or_old [] node other (suc p) e = absurd cc
last_or_old (m ∷ nodes) node other zero e = inl (omega arith, e)
last_or_old (m ∷ nodes) node other (suc p) e = elim (last_or_old nodes node other p e) [
  | inl h ↦ (let low : p < length nodes = h.0 in inl (omega (arith, low), h.1))
  | inr h ↦ inr (ap suc h.0, h.1)
]

last_at : (nodes : List Node) (node : Node) → slice_get (nodes ++ node ∷ []) (length nodes) ≡ Some node
last_at [] node = refl
last_at (m ∷ nodes) node = last_at nodes node

prefix_is : (nodes : List Node) (node : Node) → take (length nodes) (nodes ++ node ∷ []) ≡ nodes
prefix_is nodes node = take-append_seam nodes (node ∷ [])

whole_is : (nodes : List Node) (node : Node) → take (suc (length nodes)) (nodes ++ node ∷ []) ≡ nodes ++ node ∷ []
whole_is [] node = refl
whole_is (m ∷ nodes) node = ap (λ xs. m ∷ xs) (whole_is nodes node)

prefix_at : (nodes : List Node) (node : Node) (p : ℕ) → p ≤ length nodes → take p (nodes ++ node ∷ []) ≡ take p nodes
prefix_at nodes node zero h = refl
prefix_at [] node (suc p) h = absurd (omega (arith, h))
prefix_at (m ∷ nodes) node (suc p) h = ap (λ xs. m ∷ xs) (prefix_at nodes node p (omega arith))

-- the nodes with one more are in turn
order_more : (nodes : List Node) (positions : List ℕ) (node : Node) → AreInTurn nodes positions → node.list < length positions → slice_index positions node.list ≡ length nodes
    → OnInput (IsPlaced nodes positions) node.keeps → AreAmong node.keeps → AreInTurn (nodes ++ node ∷ []) positions
order_more nodes positions node dependency_order within placed later among p other at = elim (last_or_old nodes node other p at) [
  | inl h ↦
      let turn = dependency_order p other h.1 in
      let low : p < length nodes = h.0 in
      record { within = turn.within; placed = turn.placed; later = subst (λ xs. OnInput (IsPlaced xs positions) other.keeps) (sym (prefix_at nodes node p (omega (arith, low)))) turn.later; among = turn.among }
  | inr h ↦
      let here : IsInTurn (nodes ++ node ∷ []) positions (length nodes) node = record {
        within = within;
        placed = placed;
        later = subst (λ xs. OnInput (IsPlaced xs positions) node.keeps) (sym (prefix_is nodes node)) later;
        among = among;
      } in
      subst (λ q. IsInTurn (nodes ++ node ∷ []) positions q other) (sym h.0) (subst (λ (m : Node). IsInTurn (nodes ++ node ∷ []) positions (length nodes) m) h.1 here)
]

-- one list more
pub opened_more : (limit : ℕ) (s : State) (positions order : List ℕ) (nodes after : List Node) (list : ℕ) (own : Own) → limit ≤ 2147483647
    → AreOpened limit s positions order (length nodes) nodes → IsOneMore limit positions list own nodes after
    → list < length positions → slice_index positions list ≡ length nodes → own ≡ own_at s list
    → ((node : Node) → own_of node.keeps ≡ own → OnInput (IsPlaced nodes positions) node.keeps) → Inward own
    → take (suc (length nodes)) order ≡ take (length nodes) order ++ list ∷ []
    → AreOpened limit s positions order (suc (length nodes)) after
opened_more limit s positions order nodes after list own few opened more within placed own_is inputs own_inward next =
    subst (λ xs. AreOpened limit s positions order (suc (length nodes)) xs) (sym more.is) (record {
      order_is = map-append (λ (m : Node). m.list) nodes (node ∷ []) ∙ (ap (λ xs. xs ++ node.list ∷ []) opened.order_is ∙ (ap (λ l. take (length nodes) order ++ l ∷ []) more.list_is ∙ sym next));
      settled = settled;
      own = λ p n at. elim (last_or_old nodes node n p at) [
        | inl h ↦ opened.own p n h.1
        | inr h ↦ subst (λ (m : Node). own_of m.keeps ≡ own_at s m.list) h.1 (more.own_is ∙ (own_is ∙ ap (own_at s) (sym more.list_is)))
      ];
      limited = λ p n at. elim (last_or_old nodes node n p at) [
        | inl h ↦ opened.limited p n h.1
        | inr h ↦ subst (λ (m : Node). IsLimited limit m.keeps) h.1 more.limited
      ];
      within = λ p n at. elim (last_or_old nodes node n p at) [
        | inl h ↦ subst (λ xs. length xs ≤ limit) (same_old p n h.1) (opened.within p n h.1)
        | inr h ↦ subst (λ (m : Node). length (shown_by whole positions m.list) ≤ limit) h.1 few_new
      ];
    })
  where
    node : Node
    node = more.node

    whole : List Node
    whole = nodes ++ node ∷ []

    among : AreAmong node.keeps
    among = among_inward node.keeps (subst Inward (sym more.own_is) own_inward)

    dependency_order : AreInTurn whole positions
    dependency_order = order_more nodes positions node (order_of_settled nodes positions opened.settled) (subst (λ l. l < length positions) (sym more.list_is) within)
        (ap (λ l. slice_index positions l) more.list_is ∙ placed) (inputs node more.own_is) among

    few_view : length (shown_of (own_of node.keeps) (shown_by nodes positions)) ≤ limit
    few_view = subst (λ o. length (shown_of o (shown_by nodes positions)) ≤ limit) (sym more.own_is) more.within

    settled : AreSettled whole positions
    settled =
        subst (λ xs. AreSettled xs positions) (whole_is nodes node)
        (settled_more whole positions (length nodes) node dependency_order (subst (λ xs. AreSettled xs positions) (sym (prefix_is nodes node)) opened.settled) (last_at nodes node)
        (subst (λ xs. StandsFor node.keeps (shown_by xs positions)) (sym (prefix_is nodes node)) more.stands)
        (subst (λ xs. length (shown_of (own_of node.keeps) (shown_by xs positions)) ≤ 2147483647) (sym (prefix_is nodes node)) (omega (arith, few_view, few))))

    same : (i : ℕ) → IsPlaced nodes positions i → shown_by nodes positions i ≡ shown_by whole positions i
    same i at =
        subst (λ xs. shown_by xs positions i ≡ shown_by whole positions i) (prefix_is nodes node)
        (prefix_shows whole positions (length nodes) i dependency_order (subst (λ xs. IsPlaced xs positions i) (sym (prefix_is nodes node)) at))

    same_old : (p : ℕ) (n : Node) → slice_get nodes p ≡ Some n → shown_by nodes positions n.list ≡ shown_by whole positions n.list
    same_old p n at =
        let turn = (opened.settled p n at).turn in
        same n.list (record { within = turn.within; there = subst (λ q. slice_get (numbers nodes) q ≡ Some n.list) (sym turn.placed) (number_at nodes p n at) })

    few_new : length (shown_by whole positions node.list) ≤ limit
    few_new =
        let shows = turn_shows whole positions (length nodes) node dependency_order (last_at nodes node) in
        let through = shown_local (own_of node.keeps) (inward node.keeps among) (shown_by nodes positions) (shown_by whole positions)
        (λ i c. same i (each_input (IsPlaced nodes positions) node.keeps i (inputs node more.own_is) c)) in
        subst (λ xs. length xs ≤ limit) (through ∙ sym shows) few_view
