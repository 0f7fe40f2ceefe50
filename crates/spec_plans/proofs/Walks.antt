-- Dependencies by number as edges, and ways along them that pass no item twice.
use Rattle.std.proofs.Common.{◌≡◌, ℕ, zero, suc, ◌+◌, ◌<◌, ◌≤◌, ◌||◌, Bool, true, false, List, [], ◌∷◌, length, map, refl, sym, ap, subst, arith, eqb, ne_eqb, inl, inr}
use Rattle.std.specs.Prelude.{slice_get, unwrap_or, Contains}
use Rattle.std.specs.List.{list_any, AllByRecursion, IsDistinct}
use Rattle.std.proofs.lemmas.Bool.{eqb-true}
use Rattle.std.proofs.lemmas.List.Elements.{Contains-append_left, Contains-append_right, Contains-append_cases}
use Rattle.std.proofs.lemmas.Map.Steps.{length-le_from_distinct_below}
use Rattle.spec_order.specs.Edges.{DependsOn}
use Rattle.spec_order.specs.Cycle.{IsWalk}
use Rattle.spec_order.proofs.Members.{Contains-cons_cases, Contains-here, Contains-later, Contains-nil, member}
use Rattle.spec_plans.specs.Plan.{edges_from}

abbrev edge : ℕ → ℕ → ℕ × ℕ
edge a b = (a, b)

-- what the item of a number depends on
abbrev pub needs_at : List (List ℕ) → ℕ → List ℕ
needs_at needed a = unwrap_or (slice_get needed a) []

edges_to : (a : ℕ) (xs : List ℕ) (x : ℕ) → Contains xs x → DependsOn (map (λ b. (a, b)) xs) a x
edges_to a [] x c = absurd (Contains-nil x c)
edges_to a (y ∷ ys) x c = elim (Contains-cons_cases y ys x c) [
  | inl e ↦ Contains-here (edge a y) (map (λ b. (a, b)) ys) (edge a x) (ap (edge a) e)
  | inr later ↦ Contains-later (edge a y) (map (λ b. (a, b)) ys) (edge a x) (edges_to a ys x later)
]

edge_of : (number k i : ℕ) (needed : List (List ℕ)) → Contains (needs_at needed k) i
    → DependsOn (edges_from number needed) (number + k) i
edge_of number k i [] c = absurd (Contains-nil i c)
edge_of number zero i (n ∷ ns) c =
    let e : number + 0 ≡ number = omega arith in
    rw e (Contains-append_left (map (λ b. (number, b)) n) (edges_from (suc number) ns) (edge number i)
    (edges_to number n i c))
edge_of number (suc k) i (n ∷ ns) c =
    let e : number + suc k ≡ suc number + k = omega arith in
    rw e (Contains-append_right (map (λ b. (number, b)) n) (edges_from (suc number) ns) (edge (suc number + k) i)
    (edge_of (suc number) k i ns c))

-- an item depends on what it needs
pub needed_edge : (needed : List (List ℕ)) (a b : ℕ) → Contains (needs_at needed a) b
    → DependsOn (edges_from 0 needed) a b
needed_edge needed a b c =
    let e : 0 + a ≡ a = omega arith in
    subst (λ k. DependsOn (edges_from 0 needed) k b) e (edge_of 0 a b needed c)

ends_of : (number : ℕ) (xs : List ℕ) (a b : ℕ) → DependsOn (map (λ x. (number, x)) xs) a b
    → (number ≡ a) × Contains xs b
ends_of number [] a b c = absurd (Contains-nil (edge a b) c)
ends_of number (x ∷ xs) a b c = elim (Contains-cons_cases (edge number x) (map (λ y. (number, y)) xs) (edge a b) c) [
  | inl e ↦ (ap (λ p. p.0) e, Contains-here x xs b (ap (λ p. p.1) e))
  | inr later ↦
      let rest = ends_of number xs a b later in
      (rest.0, Contains-later x xs b rest.1)
]

-- where an edge comes from
record Origin (number : ℕ) (needed : List (List ℕ)) (a b : ℕ) : Type 0 where
  pub place : ℕ
  pub from : a ≡ number + place
  pub needs : Contains (needs_at needed place) b

origin : (number : ℕ) (needed : List (List ℕ)) (a b : ℕ) → DependsOn (edges_from number needed) a b
    → Origin number needed a b
origin number [] a b c = absurd (Contains-nil (edge a b) c)
origin number (n ∷ ns) a b c = elim (Contains-append_cases (map (λ x. (number, x)) n) (edges_from (suc number) ns)
    (edge a b) c) [
      | inl here ↦
          let ends = ends_of number n a b here in
          record { place = 0; from = omega (arith, ends.0); needs = ends.1 }
      | inr there ↦
          let rest = origin (suc number) ns a b there in
          record { place = suc rest.place; from = omega (arith, rest.from); needs = rest.needs }
    ]

-- an item needs what it depends on
pub edge_needed : (needed : List (List ℕ)) (a b : ℕ) → DependsOn (edges_from 0 needed) a b
    → Contains (needs_at needed a) b
edge_needed needed a b d =
    let o = origin 0 needed a b d in
    let e : o.place ≡ a = omega (arith, o.from) in
    subst (λ k. Contains (needs_at needed k) b) e o.needs

-- a way from a to b that passes no item twice
pub record Way (edges : List (ℕ × ℕ)) (a b : ℕ) : Type 0 where
  pub through : List ℕ
  pub walk : IsWalk edges a through b
  pub distinct : IsDistinct eqb (a ∷ through)

apart : (zs : List ℕ) (a : ℕ) → ¬ Contains zs a → AllByRecursion (λ z. eqb a z ≡ false) zs
apart [] a n = tt
apart (z ∷ zs) a n = (
  ne_eqb a z (λ e. n (Contains-here z zs a (sym e))),
  apart zs a
      (λ c. n (Contains-later z zs a c)),
)

module _ (edges : List (ℕ × ℕ)) where
  -- the way from an item that a way passes
  cut : (ys : List ℕ) (x a b : ℕ) → IsWalk edges x ys b → IsDistinct eqb (x ∷ ys) → Contains (x ∷ ys) a
      → Way edges a b
  unfolding IsDistinct
  cut [] x a b w d c = elim (Contains-cons_cases x [] a c) [
    | inl e ↦ subst (λ k. Way edges k b) e (record { through = []; walk = w; distinct = d })
    | inr c ↦ absurd (Contains-nil a c)
  ]
  cut (y ∷ ys) x a b w d c = elim (Contains-cons_cases x (y ∷ ys) a c) [
    | inl e ↦ subst (λ k. Way edges k b) e (record { through = y ∷ ys; walk = w; distinct = d })
    | inr c ↦ cut ys y a b w.1 d.1 c
  ]

  -- every walk leads as some way does
  pub way_of : (xs : List ℕ) (a b : ℕ) → IsWalk edges a xs b → Way edges a b
  unfolding IsDistinct
  way_of [] a b w = record { through = []; walk = w; distinct = (tt, tt) }
  way_of (x ∷ xs) a b w =
      let rest = way_of xs x b w.1 in
      elim (member (x ∷ rest.through) a) [
        | inl c ↦ cut rest.through x a b rest.walk rest.distinct c
        | inr n ↦ record {
          through = x ∷ rest.through;
          walk = (w.0, rest.walk);
          distinct =
              (apart (x ∷ rest.through) a n, rest.distinct);
        }
      ]

  module _ (n : ℕ) (within : (a x : ℕ) → DependsOn edges a x → x < n) where
    passed_below : (xs : List ℕ) (a b q : ℕ) → IsWalk edges a xs b → list_any (eqb q) xs ≡ true → q < n
    passed_below [] a b q w e = absurd cc
    passed_below (x ∷ xs) a b q w e = by (eqb q x) refl e (λ f. passed_below xs x b q w.1 f)
      where
        by : (t : Bool) → eqb q x ≡ t → (t || list_any (eqb q) xs) ≡ true → (list_any (eqb q) xs ≡ true → q < n)
            → q < n
        by true h f rest = subst (λ k. k < n) (sym (eqb-true q x h)) (within a x w.0)
        by false h f rest = rest f

    -- a way among n items has fewer than n between its ends
    pub way_is_short : (a b : ℕ) (w : Way edges a b) → a < n → suc (length w.through) ≤ n
    way_is_short a b w l = length-le_from_distinct_below (a ∷ w.through) n w.distinct below
      where
        below : (q : ℕ) → list_any (eqb q) (a ∷ w.through) ≡ true → q < n
        below q e = by (eqb q a) refl e
          where
            by : (t : Bool) → eqb q a ≡ t → (t || list_any (eqb q) w.through) ≡ true → q < n
            by true h f = subst (λ k. k < n) (sym (eqb-true q a h)) l
            by false h f = passed_below w.through a b q w.walk f
