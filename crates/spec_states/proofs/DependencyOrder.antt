-- The order in which the lists of a state are settled: each once, after those that it depends on.
use Rattle.std.proofs.Common.{◌≡◌, ℕ, zero, suc, ◌+◌, ◌<◌, List, [], ◌∷◌, ◌++◌, length, map, take, refl, ap, sym, subst, arith, inl, inr}
use Rattle.std.specs.Prelude.{slice_get, slice_index, unwrap_or}
use Rattle.std.specs.List.{Contains}
use Rattle.std.proofs.Math.Seq.{take-append_seam}
use Rattle.std.proofs.lemmas.List.{append_assoc, append-nil, length-append}
use Rattle.std.proofs.lemmas.List.Elements.{All-contains, Contains-append_left, Contains-append_right, Contains-append_cases}
use Rattle.spec_order.specs.Edges.{DependsOn}
use Rattle.spec_order.specs.Order.{IsNext, IsPrefix, IsOrder}
use Rattle.spec_order.proofs.Exists.{order_or_cycle}
use Rattle.spec_order.proofs.Acyclic.{Contains-order}
use Rattle.spec_order.proofs.Prefixes.{prefix_below}
use Rattle.spec_order.proofs.Members.{Contains-cons_cases, Contains-here, Contains-later}
use Rattle.spec_plans.specs.Plan.{edges_from}
use Rattle.spec_states.specs.State.{State, inputs, own_at, edges_of, dependency_order}
use Rattle.spec_states.specs.Laws.{IsOrdered}
use Rattle.spec_basics.proofs.Lists.{index_at_seam}

-- Of the items that are left, each comes once, and after all that it depends on; these were placed before.
abbrev pub Follow : (ℕ → List ℕ) → List ℕ → List ℕ → Type 0
Follow needs placed [] = Unit {0}
Follow needs placed (k ∷ ks) = ((i : ℕ) → Contains (needs k) i → Contains placed i) × (¬ Contains placed k) × Follow needs (placed ++ k ∷ []) ks

-- what was placed isn't left
pub placed_not_left : (needs : ℕ → List ℕ) (placed ks : List ℕ) (i : ℕ) → Follow needs placed ks
    → Contains placed i → ¬ Contains ks i
placed_not_left needs placed [] i h c d = absurd (omega (arith, d.1))
placed_not_left needs placed (k ∷ ks) i h c d = elim (Contains-cons_cases k ks i d) [
  | inl e ↦ h.1 (subst (λ j. Contains placed j) (sym e) c)
  | inr later ↦ placed_not_left needs (placed ++ k ∷ []) ks i h.2 (Contains-append_left placed (k ∷ []) i c) later
]

-- an edge and its ends
abbrev edge : ℕ → ℕ → ℕ × ℕ
edge a b = (a, b)

edges_to : (a : ℕ) (xs : List ℕ) (x : ℕ) → Contains xs x → DependsOn (map (λ b. (a, b)) xs) a x
edges_to a [] x c = absurd (omega (arith, c.1))
edges_to a (y ∷ ys) x c = elim (Contains-cons_cases y ys x c) [
  | inl e ↦ Contains-here (edge a y) (map (λ b. (a, b)) ys) (edge a x) (ap (edge a) e)
  | inr later ↦ Contains-later (edge a y) (map (λ b. (a, b)) ys) (edge a x) (edges_to a ys x later)
]

-- the edges that an item has in the lists of edges
edge_of : (number k i : ℕ) (needed : List (List ℕ)) → Contains (unwrap_or (slice_get needed k) []) i
    → DependsOn (edges_from number needed) (number + k) i
edge_of number k i [] c = absurd (omega (arith, c.1))
edge_of number zero i (n ∷ ns) c =
    let e : number + 0 ≡ number = omega arith in
    rw e (Contains-append_left (map (λ b. (number, b)) n) (edges_from (suc number) ns) (edge number i) (edges_to number n i c))
edge_of number (suc k) i (n ∷ ns) c =
    let e : number + suc k ≡ suc number + k = omega arith in
    rw e (Contains-append_right (map (λ b. (number, b)) n) (edges_from (suc number) ns) (edge (suc number + k) i) (edge_of (suc number) k i ns c))

-- the inputs of a list are dependencies
pub inputs_at : (s : State) (k : ℕ) → unwrap_or (slice_get (map inputs s) k) [] ≡ inputs (own_at s k)
inputs_at [] k = refl
inputs_at (own ∷ s) zero = refl
inputs_at (own ∷ s) (suc k) = inputs_at s k

input_edge : (s : State) (k i : ℕ) → Contains (inputs (own_at s k)) i → DependsOn (edges_of s) k i
input_edge s k i c =
    let e : 0 + k ≡ k = omega arith in
    subst (λ j. DependsOn (edges_of s) j i) e (edge_of 0 k i (map inputs s) (subst (λ xs. Contains xs i) (sym (inputs_at s k)) c))

-- what a list depends on is a list of the state
pub input_within : (s : State) → IsOrdered s → (k i : ℕ) → Contains (inputs (own_at s k)) i
    → i < length s
input_within s h k i c = (All-contains (λ e. (e.0 < length s) × (e.1 < length s)) (edges_of s) (k, i) h.within (input_edge s k i c)).1

-- what comes next at each place follows what is placed
prefix_follow : (n : ℕ) (edges : List (ℕ × ℕ)) (needs : ℕ → List ℕ)
    → ((k i : ℕ) → Contains (needs k) i → DependsOn edges k i)
    → (placed ks : List ℕ) → IsPrefix n edges (placed ++ ks) → Follow needs placed ks
prefix_follow n edges needs are placed [] prefix = tt
prefix_follow n edges needs are placed (k ∷ ks) prefix =
    let xs : List ℕ = placed ++ k ∷ ks in
    let there : length placed < length xs = omega (arith, length-append placed (k ∷ ks)) in
    let before : take (length placed) xs ≡ placed = take-append_seam placed (k ∷ ks) in
    let here : slice_index xs (length placed) ≡ k = index_at_seam placed ks k in
    let next : IsNext n edges placed k = subst (λ j. IsNext n edges placed j) here (subst (λ ys. IsNext n edges ys (slice_index xs (length placed))) before (prefix (length placed) there)) in
    let rest : IsPrefix n edges ((placed ++ k ∷ []) ++ ks) = subst (IsPrefix n edges) (sym (append_assoc placed (k ∷ []) ks)) prefix in
    ((λ i c. next.ready.free i (are k i c)), next.ready.waits, prefix_follow n edges needs are (placed ++ k ∷ []) ks rest)

-- in the dependency order
pub ordered : (s : State) → IsOrdered s → IsOrder (length s) (edges_of s) (dependency_order s)
ordered s h = elim (order_or_cycle (length s) (edges_of s) h.within) [
  | inl order ↦ order
  | inr cycle ↦ absurd (h.acyclic cycle)
]

-- each list follows those that it depends on
pub order_follow : (s : State) → IsOrdered s → Follow (λ k. inputs (own_at s k)) [] (dependency_order s)
order_follow s h = prefix_follow (length s) (edges_of s) (λ k. inputs (own_at s k)) (λ k i c. input_edge s k i c) [] (dependency_order s) (ordered s h).prefix

-- What holds of a list where it holds of those that it depends on, holds of all. It may speak of the lists that were placed.
turn_by_turn : (s : State) (P : List ℕ → ℕ → Type 0)
    → ((placed : List ℕ) (k i : ℕ) → P placed i → P (placed ++ k ∷ []) i)
    → ((placed : List ℕ) (k : ℕ) → k < length s → ((i : ℕ) → Contains (inputs (own_at s k)) i → Contains placed i) → ¬ Contains placed k → ((i : ℕ) → Contains placed i → P placed i) → P (placed ++ k ∷ []) k)
    → (placed ks : List ℕ) → ((i : ℕ) → Contains ks i → i < length s)
    → Follow (λ k. inputs (own_at s k)) placed ks
    → ((i : ℕ) → Contains placed i → P placed i) → (i : ℕ) → Contains (placed ++ ks) i
    → P (placed ++ ks) i
turn_by_turn s P later next placed [] below follows stand = subst (λ xs. (i : ℕ) → Contains xs i → P xs i) (sym (append-nil placed)) stand
turn_by_turn s P later next placed (k ∷ ks) below follows stand =
    subst (λ xs. (i : ℕ) → Contains xs i → P xs i) (append_assoc placed (k ∷ []) ks)
    (turn_by_turn s P later next (placed ++ k ∷ []) ks (λ i d. below i (Contains-later k ks i d)) follows.2 one_more)
  where
    is_last : (i : ℕ) → Contains (k ∷ []) i → k ≡ i
    is_last i e = elim (Contains-cons_cases k [] i e) [
      | inl same ↦ same
      | inr none_left ↦ absurd (omega (arith, none_left.1))
    ]

    one_more : (i : ℕ) → Contains (placed ++ k ∷ []) i → P (placed ++ k ∷ []) i
    one_more i d = elim (Contains-append_cases placed (k ∷ []) i d) [
      | inl there ↦ later placed k i (stand i there)
      | inr last ↦ subst (λ j. P (placed ++ k ∷ []) j) (is_last i last) (next placed k (below k (Contains-here k ks k refl)) follows.0 follows.1 stand)
    ]

pub listed : (s : State) → IsOrdered s → (k : ℕ) → k < length s → Contains (dependency_order s) k
listed s h k within = Contains-order (length s) (edges_of s) (dependency_order s) (ordered s h) k within

pub in_turn : (s : State) → IsOrdered s → (P : List ℕ → ℕ → Type 0)
    → ((placed : List ℕ) (k i : ℕ) → P placed i → P (placed ++ k ∷ []) i)
    → ((placed : List ℕ) (k : ℕ) → k < length s → ((i : ℕ) → Contains (inputs (own_at s k)) i → Contains placed i) → ¬ Contains placed k → ((i : ℕ) → Contains placed i → P placed i) → P (placed ++ k ∷ []) k)
    → (k : ℕ) → k < length s → P (dependency_order s) k
in_turn s h P later next k within =
    turn_by_turn s P later next [] (dependency_order s)
    (λ i d. All-contains (λ x. x < length s) (dependency_order s) i (prefix_below (length s) (edges_of s) (dependency_order s) (ordered s h).prefix) d)
    (order_follow s h) (λ i d. absurd (omega (arith, d.1))) k (listed s h k within)

-- the same of what doesn't speak of them
pub by_inputs : (s : State) → IsOrdered s → (P : ℕ → Type 0)
    → ((k : ℕ) → k < length s → ((i : ℕ) → Contains (inputs (own_at s k)) i → P i) → P k) → (k : ℕ)
    → k < length s → P k
by_inputs s h P next k within =
    in_turn s h (λ placed i. P i) (λ placed j i p. p) (λ placed j there needed new stand. next j there (λ i d. stand i (needed i d))) k within
