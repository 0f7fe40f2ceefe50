-- The dependency order of lists, and the places in it.
use Rattle.std.proofs.Common.{◌≡◌, ℕ, zero, suc, ◌<◌, ◌≤◌, Bool, true, false, ltb, List, [], ◌∷◌, ◌++◌, length, take, refl, ap, sym, subst, arith, inl, inr}
use Rattle.std.specs.Prelude.{Some, slice_get, slice_index}
use Rattle.std.specs.List.{Contains}
use Rattle.std.proofs.lemmas.Bool.{ltb-true, ltb-false}
use Rattle.std.proofs.lemmas.List.{append_assoc}
use Rattle.std.proofs.lemmas.List.Elements.{Contains-append_left}
use Rattle.std.proofs.lemmas.Option.{slice_get_within}
use Rattle.spec_states.specs.Order.{IsPrefix}
use Rattle.spec_states.proofs.Members.{Contains-cons_cases, Contains-here, Contains-later}
use Rattle.spec_states.proofs.DependencyOrder.{Follow}
use Rattle.gl_graph.specs.declared.node.Node.{Node}
use Rattle.gl_graph.specs.Nodes.{numbers, IsPlaced}
use Rattle.gl_graph.specs.Positions.{AreBelow, AreDistinct, ArePositions}
use Rattle.gl_graph.proofs.Shown.{get_prefix}

pub order_below : (n : ℕ) (edges : List (ℕ × ℕ)) (xs : List ℕ) → IsPrefix n edges xs → AreBelow n xs
order_below n edges xs prefix p within = (prefix p within).below

contains_take : (xs : List ℕ) (p q : ℕ) → p < q → q ≤ length xs → Contains (take q xs) (slice_index xs p)
contains_take xs p zero low h = absurd (omega (arith, low))
contains_take [] p (suc q) low h = absurd (omega (arith, h))
contains_take (x ∷ xs) zero (suc q) low h = Contains-here x (take q xs) x refl
contains_take (x ∷ xs) (suc p) (suc q) low h = Contains-later x (take q xs) (slice_index xs p) (contains_take xs p q (omega (arith, low)) (omega (arith, h)))

-- what comes next was not placed
pub order_distinct : (n : ℕ) (edges : List (ℕ × ℕ)) (xs : List ℕ) → IsPrefix n edges xs → AreDistinct xs
order_distinct n edges xs prefix p q p_in q_in same = by_order (ltb p q) refl (ltb q p) refl
  where
    clash : (a b : ℕ) → a < b → b < length xs → slice_index xs a ≡ slice_index xs b → ⊥
    clash a b low within e = (prefix b within).ready.waits (subst (λ x. Contains (take b xs) x) e (contains_take xs a b low (omega (arith, within))))

    by_order : (t : Bool) → ltb p q ≡ t → (u : Bool) → ltb q p ≡ u → p ≡ q
    by_order true e u f = absurd (clash p q (ltb-true p q e) q_in same)
    by_order false e true f = absurd (clash q p (ltb-true q p f) p_in (sym same))
    by_order false e false f =
        let high : q ≤ p = ltb-false p q e in
        let low : p ≤ q = ltb-false q p f in
        omega (arith, high, low)

pub index_of_get : (xs : List ℕ) (k x : ℕ) → slice_get xs k ≡ Some x → slice_index xs k ≡ x
index_of_get [] k x e = absurd cc
index_of_get (y ∷ ys) zero x e = cc
index_of_get (y ∷ ys) (suc k) x e = index_of_get ys k x e

-- where a number stands
pub record IsAt (xs : List ℕ) (x : ℕ) : Type 0 where
  pub position : ℕ
  pub is : slice_get xs position ≡ Some x

pub at_of : (xs : List ℕ) (x : ℕ) → Contains xs x → IsAt xs x
at_of [] x c = absurd (omega (arith, c.1))
at_of (y ∷ ys) x c = elim (Contains-cons_cases y ys x c) [
  | inl e ↦ record { position = 0; is = ap (λ (z : ℕ). Some z) e }
  | inr later ↦ let h = at_of ys x later in record { position = suc h.position; is = h.is }
]

-- a list among the first of the order has its place among their nodes
pub placed_in : (positions order : List ℕ) (nodes : List Node) (n k list : ℕ) → ArePositions positions order n → length order ≡ n → length positions ≡ n → AreBelow n order
    → numbers nodes ≡ take k order → Contains (take k order) list → IsPlaced nodes positions list
placed_in positions order nodes n k list are whole long below numbers_are c =
    let at = at_of (take k order) list c in
    let here : slice_get order at.position ≡ Some list = get_prefix order k at.position list at.is in
    let within : at.position < length order = slice_get_within order at.position list here in
    let index : slice_index order at.position ≡ list = index_of_get order at.position list here in
    let there : slice_index positions list ≡ at.position = subst (λ l. slice_index positions l ≡ at.position) index (are at.position (omega (arith, within, whole))) in
    let low : slice_index order at.position < n = below at.position within in
    record {
      within = omega (arith, low, index, long);
      there = subst (λ p. slice_get (numbers nodes) p ≡ Some list) (sym there) (subst (λ xs. slice_get xs at.position ≡ Some list) (sym numbers_are) at.is);
    }

-- what an item needs stands before it
pub follow_at : (needs : ℕ → List ℕ) (placed ks : List ℕ) (k x : ℕ) → Follow needs placed ks → slice_get ks k ≡ Some x → (i : ℕ) → Contains (needs x) i → Contains (placed ++ take k ks) i
follow_at needs placed [] k x f e i c = absurd cc
follow_at needs placed (y ∷ ks) zero x f e i c =
    let same : y ≡ x = cc in
    Contains-append_left placed [] i (f.0 i (subst (λ z. Contains (needs z) i) (sym same) c))
follow_at needs placed (y ∷ ks) (suc k) x f e i c =
    subst (λ xs. Contains xs i) (append_assoc placed (y ∷ []) (take k ks)) (follow_at needs (placed ++ y ∷ []) ks k x f.2 e i c)

pub take_next : (xs : List ℕ) (k x : ℕ) → slice_get xs k ≡ Some x → take (suc k) xs ≡ take k xs ++ x ∷ []
take_next [] k x e = absurd cc
take_next (y ∷ ys) zero x e = let same : y ≡ x = cc in ap (λ z. z ∷ []) same
take_next (y ∷ ys) (suc k) x e = ap (λ zs. y ∷ zs) (take_next ys k x e)

pub take_all : (xs : List ℕ) → take (length xs) xs ≡ xs
take_all [] = refl
take_all (x ∷ xs) = ap (λ ys. x ∷ ys) (take_all xs)

pub take_long : (xs : List ℕ) (k : ℕ) → k ≤ length xs → length (take k xs) ≡ k
take_long xs zero h = refl
take_long [] (suc k) h = absurd (omega (arith, h))
take_long (x ∷ xs) (suc k) h = ap suc (take_long xs k (omega (arith, h)))
