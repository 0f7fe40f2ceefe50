-- Where there is an order, there is no cycle.
use Rattle.std.proofs.Common.{◌≡◌, ℕ, zero, suc, ◌<◌, List, [], ◌∷◌, length, get_or, take, sym, ◌∙◌, subst, arith}
use Rattle.std.specs.Prelude.{Contains, slice_index}
use Rattle.std.proofs.lemmas.List.{get_or_default, length-take-le, get_or-take}
use Rattle.std.proofs.lemmas.List.Elements.{All-contains}
use Rattle.spec_order.specs.Edges.{DependsOn, AreWithin}
use Rattle.spec_order.specs.Order.{IsPrefix, IsOrder}
use Rattle.spec_order.specs.Cycle.{IsWalk, IsCycle, HasCycle}
use Rattle.spec_order.proofs.Members.{Contains-distinct}
use Rattle.spec_order.proofs.Prefixes.{prefix_below, prefix_once}

-- x stands at place i of xs
pub record StandsAt (xs : List ℕ) (i x : ℕ) : Type 0 where
  pub within : i < length xs
  pub there : slice_index xs i ≡ x

-- x stands at a place of xs before place i
pub record StandsBefore (xs : List ℕ) (i x : ℕ) : Type 0 where
  pub position : ℕ
  pub before : position < i
  pub stands : StandsAt xs position x

stands_from_Contains : (xs : List ℕ) (i x k : ℕ) → i < length xs → k < length (take i xs) → get_or (take i xs) k x ≡ x → StandsBefore xs i x
stands_from_Contains xs i x k l m e =
    let size = length-take-le i xs (omega arith) in
    let lt : k < i = omega arith in
    let read : get_or (take i xs) k x ≡ get_or xs k x = get_or-take i xs k x lt in
    let zero_read : get_or xs k x ≡ slice_index xs k = get_or_default xs k x 0 (omega arith) in
    record { position = k; before = lt; stands = record { within = omega arith; there = sym zero_read ∙ (sym read ∙ e) } }

-- what stands at a place depends only on what stands before it
pub dependency_before : (n : ℕ) (edges : List (ℕ × ℕ)) (xs : List ℕ) → IsPrefix n edges xs → (i x y : ℕ) → StandsAt xs i x → DependsOn edges x y → StandsBefore xs i y
dependency_before n edges xs f i x y s d =
    let c : Contains (take i xs) y = (f i s.within).ready.free y (subst (λ (z : ℕ). DependsOn edges z y) (sym s.there) d) in
    stands_from_Contains xs i y (c.0) s.within c.1 c.2

walk_before : (n : ℕ) (edges : List (ℕ × ℕ)) (xs : List ℕ) → IsPrefix n edges xs → (i x y : ℕ) (ws : List ℕ) → StandsAt xs i x → IsWalk edges x ws y → StandsBefore xs i y
walk_before n edges xs f i x y [] s w = dependency_before n edges xs f i x y s w
walk_before n edges xs f i x y (z ∷ zs) s w =
    let b = dependency_before n edges xs f i x z s w.0 in
    let c = walk_before n edges xs f b.position z y zs b.stands w.1 in
    let lt : c.position < i = omega (arith, b.before, c.before) in
    record { position = c.position; before = lt; stands = c.stands }

pub no_descent : (n : ℕ) (edges : List (ℕ × ℕ)) (xs : List ℕ) → IsPrefix n edges xs → (m i x : ℕ) (ws : List ℕ) → i < m → StandsAt xs i x → ¬ IsWalk edges x ws x
no_descent n edges xs f zero i x ws l s w = absurd (omega arith)
no_descent n edges xs f (suc m) i x ws l s w =
    let b = walk_before n edges xs f i x x ws s w in
    let lt : b.position < m = omega (arith, b.before) in
    no_descent n edges xs f m b.position x ws lt b.stands w

-- a number that depends on something is below n
pub walk_below : (n : ℕ) (edges : List (ℕ × ℕ)) (x y : ℕ) (ws : List ℕ) → AreWithin n edges → IsWalk edges x ws y → x < n
walk_below n edges x y [] ends w = (All-contains (λ e. (e.0 < n) × (e.1 < n)) edges (x, y) ends w).0
walk_below n edges x y (z ∷ zs) ends w = (All-contains (λ e. (e.0 < n) × (e.1 < n)) edges (x, z) ends w.0).0

-- each of the n numbers is in the order, which has none twice (`prefix_once`) and no others (`prefix_below`)
pub Contains-order : (n : ℕ) (edges : List (ℕ × ℕ)) (xs : List ℕ) → IsOrder n edges xs → (j : ℕ) → j < n → Contains xs j
Contains-order n edges xs o j l =
    Contains-distinct n xs o.whole (prefix_below n edges xs o.prefix) (prefix_once n edges xs o.prefix) j l

pub acyclic_from_IsOrder : (n : ℕ) (edges : List (ℕ × ℕ)) (xs : List ℕ) → AreWithin n edges → IsOrder n edges xs → ¬ HasCycle edges
acyclic_from_IsOrder n edges xs ends o h = cycle_free h.0 h.1
  where
    cycle_free : (cycle : List ℕ) → IsCycle edges cycle → ⊥
    cycle_free [] c = c
    cycle_free (x ∷ ws) c =
        let p : Contains xs x = Contains-order n edges xs o x (walk_below n edges x x ws ends c) in
        let read : get_or xs (p.0) x ≡ slice_index xs (p.0) = get_or_default xs (p.0) x 0 p.1 in
        no_descent n edges xs o.prefix (suc (p.0)) (p.0) x ws (omega arith) (record { within = p.1; there = sym read ∙ p.2 }) c
