-- Where some numbers are not placed and none may come next, there is a cycle.
use Rattle.std.proofs.Common.{ℕ, zero, suc, ◌+◌, ◌<◌, ◌≤◌, ◌⊎◌, inl, inr, List, [], ◌∷◌, ◌++◌, length, sym, ap, subst, arith}
use Rattle.std.specs.Prelude.{All, Contains, ⊤}
use Rattle.std.proofs.lemmas.Bool.{cases_eq}
use Rattle.std.proofs.lemmas.List.Elements.{All-nil, All-cons, All-head, All-contains}
use Rattle.spec_order.specs.Edges.{DependsOn, AreWithin}
use Rattle.spec_order.specs.Order.{IsReady}
use Rattle.spec_order.specs.Cycle.{IsWalk, HasCycle}
use Rattle.spec_order.proofs.Members.{Contains-cons_cases, Contains-here, Contains-later, Contains-nil, member, hit_other, hit_same, times, times_none, missing, length_distinct}
use Rattle.spec_order.proofs.Walks.{walk_join}

-- a dependency of j that is not placed
record Blocked (edges : List (ℕ × ℕ)) (placed : List ℕ) (j : ℕ) : Type 0 where
  on : ℕ
  depends : DependsOn edges j on
  waits : ¬ Contains placed on

blocked_or_free : (edges : List (ℕ × ℕ)) (placed : List ℕ) (j : ℕ) → Blocked edges placed j ⊎ ((b : ℕ) → DependsOn edges j b → Contains placed b)
blocked_or_free [] placed j = inr (λ b d. absurd (Contains-nil (j, b) d))
blocked_or_free ((a, c) ∷ es) placed j =
    elim (blocked_or_free es placed j) as (λ _. Blocked ((a, c) ∷ es) placed j ⊎ ((b : ℕ) → DependsOn ((a, c) ∷ es) j b → Contains placed b)) [
      | inl k ↦ inl (record { on = k.on; depends = Contains-later (a, c) es (j, k.on) k.depends; waits = k.waits })
      | inr free ↦ elim (member placed c) as (λ _. Blocked ((a, c) ∷ es) placed j ⊎ ((b : ℕ) → DependsOn ((a, c) ∷ es) j b → Contains placed b)) [
        | inl m ↦ inr (λ b d. elim (Contains-cons_cases (a, c) es (j, b) d) as (λ _. Contains placed b) [
          | inl e ↦ subst (λ (z : ℕ). Contains placed z) (ap (λ (p : ℕ × ℕ). p.1) e) m
          | inr later ↦ free b later
        ])
        | inr lacks ↦ elim (cases_eq a j) as (λ _. Blocked ((a, c) ∷ es) placed j ⊎ ((b : ℕ) → DependsOn ((a, c) ∷ es) j b → Contains placed b)) [
          | inl e ↦ inl (record { on = c; depends = Contains-here (a, c) es (j, c) (ap (λ z. (z, c)) e); waits = lacks })
          | inr ne ↦ inr (λ b d. elim (Contains-cons_cases (a, c) es (j, b) d) as (λ _. Contains placed b) [
            | inl e ↦ absurd (ne (ap (λ (p : ℕ × ℕ). p.0) e))
            | inr later ↦ free b later
          ])
        ]
      ]
    ]

blocked : (edges : List (ℕ × ℕ)) (placed : List ℕ) (j : ℕ) → ¬ Contains placed j → ¬ IsReady edges placed j → Blocked edges placed j
blocked edges placed j waits stuck =
    elim (blocked_or_free edges placed j) as (λ _. Blocked edges placed j) [
      | inl b ↦ b
      | inr free ↦ absurd (stuck (record { waits = waits; free = free }))
    ]

-- the newest first, each a dependency of the next
abbrev IsTrail : List (ℕ × ℕ) → ℕ → List ℕ → Type 0
IsTrail edges x [] = ⊤
IsTrail edges x (y ∷ ys) = DependsOn edges y x × IsTrail edges y ys

-- from an older item of a trail to the newest
record Back (edges : List (ℕ × ℕ)) (y x : ℕ) : Type 0 where
  steps : List ℕ
  walk : IsWalk edges y steps x

trail_back : (edges : List (ℕ × ℕ)) (x y : ℕ) (rest : List ℕ) → IsTrail edges x rest → Contains rest y → Back edges y x
trail_back edges x y [] t c = absurd (Contains-nil y c)
trail_back edges x y (z ∷ zs) t c =
    elim (Contains-cons_cases z zs y c) as (λ _. Back edges y x) [
      | inl e ↦ record { steps = []; walk = subst (λ (v : ℕ). DependsOn edges v x) e t.0 }
      | inr later ↦
          let b = trail_back edges z y zs t.1 later in
          record { steps = b.steps ++ z ∷ []; walk = walk_join edges y z x b.steps [] b.walk t.0 }
    ]

trail_closes : (edges : List (ℕ × ℕ)) (x y : ℕ) (rest : List ℕ) → IsTrail edges x rest → Contains (x ∷ rest) y → DependsOn edges x y → HasCycle edges
trail_closes edges x y rest t c d =
    elim (Contains-cons_cases x rest y c) as (λ _. HasCycle edges) [
      | inl e ↦ (x ∷ [], subst (λ (z : ℕ). DependsOn edges x z) (sym e) d)
      | inr later ↦ let b = trail_back edges x y rest t later in (x ∷ y ∷ b.steps, (d, b.walk))
    ]

-- a trail of different numbers that are not placed goes on to another such number, or closes
trail_search : (n : ℕ) (edges : List (ℕ × ℕ)) (placed : List ℕ) → AreWithin n edges → ((j : ℕ) → j < n → ¬ IsReady edges placed j) → (m x : ℕ) (rest : List ℕ) → IsTrail edges x rest → All (λ j. j < n) (x ∷ rest) → ((j : ℕ) → times j (x ∷ rest) ≤ 1) → ¬ Contains placed x → n < length (x ∷ rest) + m → HasCycle edges
trail_search n edges placed ends stuck zero x rest t low once waits far =
    absurd (omega (arith, length_distinct n (x ∷ rest) low once))
trail_search n edges placed ends stuck (suc m) x rest t low once waits far =
    let b = blocked edges placed x waits (stuck x (All-head (λ j. j < n) x rest low)) in
    let on_low : b.on < n = (All-contains (λ e. (e.0 < n) × (e.1 < n)) edges (x, b.on) ends b.depends).1 in
    elim (member (x ∷ rest) b.on) as (λ _. HasCycle edges) [
      | inl c ↦ trail_closes edges x b.on rest t c b.depends
      | inr new ↦
          let once_more : (j : ℕ) → times j (b.on ∷ x ∷ rest) ≤ 1 =
          λ j. elim (cases_eq b.on j) as (λ _. times j (b.on ∷ x ∷ rest) ≤ 1) [
            | inl e ↦ omega (arith, hit_same b.on j e, times_none j (x ∷ rest) (subst (λ (z : ℕ). ¬ Contains (x ∷ rest) z) e new))
            | inr ne ↦ omega (arith, hit_other b.on j ne, once j)
          ] in
          trail_search n edges placed ends stuck m b.on (x ∷ rest) (b.depends, t) (All-cons (λ j. j < n) b.on (x ∷ rest) on_low low) once_more b.waits (omega arith)
    ]

-- where some of the n numbers are not placed and none of them may come next
pub cycle_from_stuck : (n : ℕ) (edges : List (ℕ × ℕ)) (placed : List ℕ) → AreWithin n edges → length placed < n → ((j : ℕ) → j < n → ¬ IsReady edges placed j) → HasCycle edges
cycle_from_stuck n edges placed ends short stuck =
    let m = missing n placed short in
    let once : (j : ℕ) → times j (m.0 ∷ []) ≤ 1 =
    λ j. elim (cases_eq (m.0) j) as (λ _. times j (m.0 ∷ []) ≤ 1) [
      | inl e ↦ omega (arith, hit_same (m.0) j e)
      | inr ne ↦ omega (arith, hit_other (m.0) j ne)
    ] in
    trail_search n edges placed ends stuck n (m.0) [] tt (All-cons (λ j. j < n) (m.0) [] m.1 (All-nil (λ j. j < n))) once m.2 (omega arith)
