-- The order exists exactly where there is no cycle, and `dependency_order` computes it.
use Rattle.std.proofs.Common.{◌≡◌, ℕ, zero, suc, ◌+◌, ◌<◌, ◌≤◌, ◌⊎◌, inl, inr, Bool, true, false, cond, not, ◌||◌, ◌&&◌, ◌==◌, ◌↔◌, List, [], ◌∷◌, ◌++◌, Option, Some, None, length, refl, sym, ap, ◌∙◌, subst, arith, length-append}
use Rattle.std.specs.Prelude.{Contains}
use Rattle.std.specs.List.{list_all}
use Rattle.std.specs.Option.{MatchOption, option_to_list}
use Rattle.std.proofs.lemmas.Bool.{cases_eq, cases_Bool, eq-eqb, ne_eqb, and_parts, not-true}
use Rattle.spec_order.specs.Edges.{DependsOn, AreWithin}
use Rattle.spec_order.specs.Order.{IsReady, IsNext, IsPrefix, IsOrder, HasOrder}
use Rattle.spec_order.specs.DependencyOrder.{has, is_ready, first_from, next_turn, order_after, dependency_order}
use Rattle.spec_order.specs.Cycle.{HasCycle}
use Rattle.spec_order.proofs.Members.{Contains-cons_cases, Contains-here, Contains-later, Contains-nil, has-true, has-false, true_from_Contains}
use Rattle.spec_order.proofs.Prefixes.{prefix_push, prefix_nil, IsOrder-unique}
use Rattle.spec_order.proofs.Acyclic.{acyclic_from_IsOrder}
use Rattle.spec_order.proofs.Stuck.{cycle_from_stuck}

ready_frees : (edges : List (ℕ × ℕ)) (placed : List ℕ) (k : ℕ) → list_all (λ e. not (e.0 == k) || has placed e.1) edges ≡ true → (b : ℕ) → DependsOn edges k b → Contains placed b
ready_frees [] placed k h b d = absurd (Contains-nil (k, b) d)
ready_frees ((a, c) ∷ es) placed k h b d =
    let parts = and_parts (not (a == k) || has placed c) (list_all (λ e. not (e.0 == k) || has placed e.1) es) h in
    elim (Contains-cons_cases (a, c) es (k, b) d) as (λ _. Contains placed b) [
      | inl e ↦
          let ea : a ≡ k = ap (λ (p : ℕ × ℕ). p.0) e in
          let ec : c ≡ b = ap (λ (p : ℕ × ℕ). p.1) e in
          let test : (a == k) ≡ true = eq-eqb a k ea in
          let placed_c : has placed c ≡ true = ap (λ t. not t || has placed c) (sym test) ∙ parts.0 in
          subst (λ (z : ℕ). Contains placed z) ec (has-true placed c placed_c)
      | inr later ↦ ready_frees es placed k parts.1 b later
    ]

free_ready : (edges : List (ℕ × ℕ)) (placed : List ℕ) (k : ℕ) → ((b : ℕ) → DependsOn edges k b → Contains placed b) → list_all (λ e. not (e.0 == k) || has placed e.1) edges ≡ true
free_ready [] placed k f = refl
free_ready ((a, c) ∷ es) placed k f =
    let rest = free_ready es placed k (λ b d. f b (Contains-later (a, c) es (k, b) d)) in
    elim (cases_eq a k) as (λ _. list_all (λ e. not (e.0 == k) || has placed e.1) ((a, c) ∷ es) ≡ true) [
      | inl e ↦
          let h : has placed c ≡ true = true_from_Contains placed c (f c (Contains-here (a, c) es (k, c) (ap (λ z. (z, c)) e))) in
          let t : (a == k) ≡ true = eq-eqb a k e in
          ap (λ u. (not u || has placed c) && list_all (λ e. not (e.0 == k) || has placed e.1) es) t
          ∙ (ap (λ u. u && list_all (λ e. not (e.0 == k) || has placed e.1) es) h ∙ rest)
      | inr ne ↦
          let t : (a == k) ≡ false = ne_eqb a k ne in
          ap (λ u. (not u || has placed c) && list_all (λ e. not (e.0 == k) || has placed e.1) es) t ∙ rest
    ]

pub IsReady-from_true : (edges : List (ℕ × ℕ)) (placed : List ℕ) (k : ℕ) → is_ready edges placed k ≡ true → IsReady edges placed k
IsReady-from_true edges placed k h =
    let parts = and_parts (not (has placed k)) (list_all (λ e. not (e.0 == k) || has placed e.1) edges) h in
    record { waits = has-false placed k (not-true (has placed k) parts.0); free = ready_frees edges placed k parts.1 }

pub is_ready-true : (edges : List (ℕ × ℕ)) (placed : List ℕ) (k : ℕ) → IsReady edges placed k → is_ready edges placed k ≡ true
is_ready-true edges placed k r =
    elim (cases_Bool (has placed k)) as (λ _. is_ready edges placed k ≡ true) [
      | inl t ↦ absurd (r.waits (has-true placed k t))
      | inr t ↦ ap (λ u. not u && list_all (λ e. not (e.0 == k) || has placed e.1) edges) t ∙ free_ready edges placed k r.free
    ]

-- the number found is the first that passes
record IsFirstFound (p : ℕ → Bool) (k m f : ℕ) : Type 0 where
  from : k ≤ f
  within : f < k + m
  passes : p f ≡ true
  least : (j : ℕ) → k ≤ j → j < f → p j ≡ false

first_found : (p : ℕ → Bool) (k m : ℕ) → MatchOption (first_from p k m) ((j : ℕ) → k ≤ j → j < k + m → p j ≡ false) (IsFirstFound p k m)
first_found p k zero = λ j g l. absurd (omega arith)
first_found p k (suc m) =
    elim (cases_Bool (p k)) as (λ _. MatchOption (first_from p k (suc m)) ((j : ℕ) → k ≤ j → j < k + suc m → p j ≡ false) (IsFirstFound p k (suc m))) [
      | inl t ↦
          let e : Some k ≡ first_from p k (suc m) = ap (λ u. cond u (Some k) (first_from p (suc k) m)) (sym t) in
          subst (λ (o : Option ℕ). MatchOption o ((j : ℕ) → k ≤ j → j < k + suc m → p j ≡ false) (IsFirstFound p k (suc m))) e
          (record { from = omega arith; within = omega arith; passes = t; least = λ j g l. absurd (omega arith) })
      | inr t ↦
          let e : first_from p (suc k) m ≡ first_from p k (suc m) = ap (λ u. cond u (Some k) (first_from p (suc k) m)) (sym t) in
          subst (λ (o : Option ℕ). MatchOption o ((j : ℕ) → k ≤ j → j < k + suc m → p j ≡ false) (IsFirstFound p k (suc m))) e
          (found_later p k m t (first_from p (suc k) m) (first_found p (suc k) m))
    ]
  where
    found_later : (p : ℕ → Bool) (k m : ℕ) → p k ≡ false → (o : Option ℕ) → MatchOption o ((j : ℕ) → suc k ≤ j → j < suc k + m → p j ≡ false) (IsFirstFound p (suc k) m) → MatchOption o ((j : ℕ) → k ≤ j → j < k + suc m → p j ≡ false) (IsFirstFound p k (suc m))
    found_later p k m t None h = λ j g l. elim (cases_eq j k) as (λ _. p j ≡ false) [ inl e ↦ ap p e ∙ t | inr ne ↦ h j (omega arith) (omega arith) ]
    found_later p k m t (Some f) h =
        record {
          from = omega (arith, h.from);
          within = omega (arith, h.within);
          passes = h.passes;
          least = λ j g l. elim (cases_eq j k) as (λ _. p j ≡ false) [ inl e ↦ ap p e ∙ t | inr ne ↦ h.least j (omega arith) l ];
        }

-- what `next_turn` says
next_found : (n : ℕ) (edges : List (ℕ × ℕ)) (placed : List ℕ) (o : Option ℕ) → MatchOption o ((j : ℕ) → 0 ≤ j → j < 0 + n → is_ready edges placed j ≡ false) (IsFirstFound (is_ready edges placed) 0 n) → MatchOption o ((j : ℕ) → j < n → ¬ IsReady edges placed j) (IsNext n edges placed)
next_found n edges placed None h = λ j l r. let t = is_ready-true edges placed j r in let f = h j (omega arith) (omega arith) in cc
next_found n edges placed (Some k) h = record {
  below = omega (arith, h.within);
  ready = IsReady-from_true edges placed k h.passes;
  least = λ j l r. let t = is_ready-true edges placed j r in let f = h.least j (omega arith) l in cc;
}

-- the turns from a front on are a longer front, and all n numbers unless there is a cycle
order_grow : (m n : ℕ) (edges : List (ℕ × ℕ)) (placed : List ℕ) → AreWithin n edges → IsPrefix n edges placed → length placed + m ≡ n → IsOrder n edges (order_after m n edges placed) ⊎ HasCycle edges
order_grow zero n edges placed ends f e = inl (record { whole = omega arith; prefix = f })
order_grow (suc m) n edges placed ends f e =
    grown (next_turn n edges placed) (next_found n edges placed (next_turn n edges placed) (first_found (is_ready edges placed) 0 n)) (λ k next. order_grow m n edges (placed ++ k ∷ []) ends (prefix_push n edges placed k f next) (omega (arith, length-append placed (k ∷ []))))
  where
    grown : (o : Option ℕ) → MatchOption o ((j : ℕ) → j < n → ¬ IsReady edges placed j) (IsNext n edges placed) → ((k : ℕ) → IsNext n edges placed k → IsOrder n edges (order_after m n edges (placed ++ k ∷ [])) ⊎ HasCycle edges) → IsOrder n edges (order_after m n edges (placed ++ option_to_list o)) ⊎ HasCycle edges
    grown None h later = inr (cycle_from_stuck n edges placed ends (omega arith) h)
    grown (Some k) h later = later k h

pub order_or_cycle : (n : ℕ) (edges : List (ℕ × ℕ)) → AreWithin n edges → IsOrder n edges (dependency_order n edges) ⊎ HasCycle edges
order_or_cycle n edges ends = order_grow n n edges [] ends (prefix_nil n edges) (omega arith)

-- the order exists exactly where there is no cycle
pub order_exists : (n : ℕ) (edges : List (ℕ × ℕ)) → AreWithin n edges → HasOrder n edges ↔ (¬ HasCycle edges)
order_exists n edges ends = (
  λ h. acyclic_from_IsOrder n edges (h.0) ends h.1,
  λ free. elim (order_or_cycle n edges ends) as (λ _. HasOrder n edges) [ inl o ↦ (dependency_order n edges, o) | inr c ↦ absurd (free c) ],
)

-- any order is `dependency_order`
pub dependency_order-from_IsOrder : (n : ℕ) (edges : List (ℕ × ℕ)) (xs : List ℕ) → AreWithin n edges → IsOrder n edges xs → xs ≡ dependency_order n edges
dependency_order-from_IsOrder n edges xs ends o =
    IsOrder-unique n edges xs (dependency_order n edges) o (elim (order_or_cycle n edges ends) as (λ _. IsOrder n edges (dependency_order n edges)) [
      | inl t ↦ t
      | inr c ↦ absurd (acyclic_from_IsOrder n edges xs ends o c)
    ])
