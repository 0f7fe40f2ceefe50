-- How many open dependencies a number has, once some numbers are placed.
use Rattle.std.proofs.Common.{◌≡◌, ℕ, ◌+◌, ◌<◌, inl, inr, ◌==◌, ◌||◌, true, false, cond, List, [], ◌∷◌, ◌++◌, map, refl, sym, ap, ◌∙◌, subst, arith}
use Rattle.std.specs.Prelude.{All, Contains, filter, count_by, IsPermutation}
use Rattle.std.specs.List.{sum_by}
use Rattle.std.proofs.lemmas.Bool.{cases_eq, cases_Bool, eq-eqb, ne_eqb}
use Rattle.std.proofs.lemmas.List.Elements.{All-filter, All-map}
use Rattle.std.proofs.lemmas.List.Sorted.{All-permutation, sum_by-IsPermutation}
use Rattle.std.proofs.lemmas.List.Sums.{sum_by-cons}
use Rattle.spec_order.specs.Edges.{DependsOn, AreWithin}
use Rattle.spec_order.specs.DependencyOrder.{has}
use Rattle.spec_order.proofs.Members.{Contains-cons_cases, Contains-here, Contains-later, Contains-nil, has-true, true_from_Contains, hit, hit_same, hit_other}
use Rattle.gl_publisher.specs.Waiting.{ends_with}

-- 1 for an edge from a to a number that is not placed
abbrev pub open_weight : List ℕ → ℕ → ℕ × ℕ → ℕ
open_weight placed a e = cond (e.0 == a) (cond (has placed e.1) 0 1) 0

-- how many of the edges are from a to a number that is not placed
abbrev pub open_count : List (ℕ × ℕ) → List ℕ → ℕ → ℕ
open_count [] placed a = 0
open_count (e ∷ es) placed a = open_weight placed a e + open_count es placed a

-- 1 for an edge from a to k
abbrev pub edge_weight : ℕ → ℕ → ℕ × ℕ → ℕ
edge_weight k a e = cond (e.1 == k) (hit e.0 a) 0

-- how many of the edges are from a to k
abbrev pub edge_count : List (ℕ × ℕ) → ℕ → ℕ → ℕ
edge_count [] k a = 0
edge_count (e ∷ es) k a = edge_weight k a e + edge_count es k a

-- at first all dependencies are open
pub open_count_start : (edges : List (ℕ × ℕ)) (a : ℕ) → count_by (λ e. e.0 == a) edges ≡ open_count edges [] a
open_count_start [] a = refl
open_count_start (e ∷ es) a =
    sum_by-cons (λ e. cond (e.0 == a) 1 0) e es ∙ ap (λ m. cond (e.0 == a) 1 0 + m) (open_count_start es a)

weight_true : (placed : List ℕ) (a : ℕ) (e : ℕ × ℕ) → e.0 ≡ a → has placed e.1 ≡ true → open_weight placed a e ≡ 0
weight_true placed a e p q = ap (λ b. cond b (cond (has placed e.1) 0 1) 0) (eq-eqb e.0 a p) ∙ ap (λ b. cond {A = ℕ} b 0 1) q

weight_false : (placed : List ℕ) (a : ℕ) (e : ℕ × ℕ) → e.0 ≡ a → has placed e.1 ≡ false → open_weight placed a e ≡ 1
weight_false placed a e p q = ap (λ b. cond b (cond (has placed e.1) 0 1) 0) (eq-eqb e.0 a p) ∙ ap (λ b. cond {A = ℕ} b 0 1) q

weight_other : (placed : List ℕ) (a : ℕ) (e : ℕ × ℕ) → (e.0 ≡ a → ⊥) → open_weight placed a e ≡ 0
weight_other placed a e p = ap (λ b. cond b (cond (has placed e.1) 0 1) 0) (ne_eqb e.0 a p)

-- a number with no open dependency has all of them placed
pub frees_from_count : (edges : List (ℕ × ℕ)) (placed : List ℕ) (a : ℕ) → open_count edges placed a ≡ 0 → (b : ℕ) → DependsOn edges a b → Contains placed b
frees_from_count [] placed a z b d = absurd (Contains-nil (a, b) d)
frees_from_count (e ∷ es) placed a z b d =
    elim (Contains-cons_cases e es (a, b) d) as (λ _. Contains placed b) [
      | inl s ↦
          let e0 : e.0 ≡ a = ap (λ (p : ℕ × ℕ). p.0) s in
          let e1 : e.1 ≡ b = ap (λ (p : ℕ × ℕ). p.1) s in
          elim (cases_Bool (has placed e.1)) as (λ _. Contains placed b) [
            | inl t ↦ subst (λ (x : ℕ). Contains placed x) e1 (has-true placed e.1 t)
            | inr t ↦ absurd (omega (arith, weight_false placed a e e0 t))
          ]
      | inr later ↦ frees_from_count es placed a (omega arith) b later
    ]

pub count_from_frees : (edges : List (ℕ × ℕ)) (placed : List ℕ) (a : ℕ) → ((b : ℕ) → DependsOn edges a b → Contains placed b) → open_count edges placed a ≡ 0
count_from_frees [] placed a f = refl
count_from_frees (e ∷ es) placed a f =
    let rest = count_from_frees es placed a (λ b d. f b (Contains-later e es (a, b) d)) in
    elim (cases_eq e.0 a) as (λ _. open_count (e ∷ es) placed a ≡ 0) [
      | inl s ↦
          let here : Contains placed e.1 = f e.1 (Contains-here e es (a, e.1) (ap (λ x. (x, e.1)) s)) in
          omega (arith, weight_true placed a e s (true_from_Contains placed e.1 here))
      | inr ne ↦ omega (arith, weight_other placed a e ne)
    ]

pub has_push : (xs : List ℕ) (k b : ℕ) → has (xs ++ k ∷ []) b ≡ (has xs b || (k == b))
has_push [] k b = elim (cases_Bool (k == b)) as (λ _. has (k ∷ []) b ≡ (k == b)) [ inl t ↦ ap (λ u. u || false) t ∙ sym t | inr t ↦ ap (λ u. u || false) t ∙ sym t ]
has_push (x ∷ xs) k b =
    elim (cases_Bool (x == b)) as (λ _. has (x ∷ xs ++ k ∷ []) b ≡ (has (x ∷ xs) b || (k == b))) [
      | inl t ↦ ap (λ u. u || has (xs ++ k ∷ []) b) t ∙ sym (ap (λ u. (u || has xs b) || (k == b)) t)
      | inr t ↦ ap (λ u. u || has (xs ++ k ∷ []) b) t ∙ (has_push xs k b ∙ sym (ap (λ u. (u || has xs b) || (k == b)) t))
    ]

pub has_push_same : (xs : List ℕ) (k : ℕ) → has (xs ++ k ∷ []) k ≡ true
has_push_same xs k =
    has_push xs k k ∙ (ap (λ u. has xs k || u) (eq-eqb k k refl) ∙ elim (cases_Bool (has xs k)) as (λ _. (has xs k || true) ≡ true) [ inl t ↦ ap (λ u. u || true) t | inr t ↦ ap (λ u. u || true) t ])

pub has_push_other : (xs : List ℕ) (k b : ℕ) → (k ≡ b → ⊥) → has (xs ++ k ∷ []) b ≡ has xs b
has_push_other xs k b ne =
    has_push xs k b ∙ (ap (λ u. has xs b || u) (ne_eqb k b ne) ∙ elim (cases_Bool (has xs b)) as (λ _. (has xs b || false) ≡ has xs b) [ inl t ↦ ap (λ u. u || false) t ∙ sym t | inr t ↦ ap (λ u. u || false) t ∙ sym t ])

-- one number more is placed: the edges to it are no longer open
weight_push : (placed : List ℕ) (k a : ℕ) (e : ℕ × ℕ) → has placed k ≡ false → open_weight (placed ++ k ∷ []) a e + edge_weight k a e ≡ open_weight placed a e
weight_push placed k a e new =
    elim (cases_eq e.1 k) as (λ _. open_weight (placed ++ k ∷ []) a e + edge_weight k a e ≡ open_weight placed a e) [
      | inl s ↦
          let in_new : has (placed ++ k ∷ []) e.1 ≡ true = ap (has (placed ++ k ∷ [])) s ∙ has_push_same placed k in
          let in_old : has placed e.1 ≡ false = ap (has placed) s ∙ new in
          let edge : edge_weight k a e ≡ hit e.0 a = ap (λ b. cond b (hit e.0 a) 0) (eq-eqb e.1 k s) in
          elim (cases_eq e.0 a) as (λ _. open_weight (placed ++ k ∷ []) a e + edge_weight k a e ≡ open_weight placed a e) [
            | inl t ↦ omega (arith, weight_true (placed ++ k ∷ []) a e t in_new, weight_false placed a e t in_old, hit_same e.0 a t)
            | inr ne ↦ omega (arith, weight_other (placed ++ k ∷ []) a e ne, weight_other placed a e ne, hit_other e.0 a ne)
          ]
      | inr apart ↦
          let same : has (placed ++ k ∷ []) e.1 ≡ has placed e.1 = has_push_other placed k e.1 (λ q. apart (sym q)) in
          let edge : edge_weight k a e ≡ 0 = ap (λ b. cond b (hit e.0 a) 0) (ne_eqb e.1 k apart) in
          let weight : open_weight (placed ++ k ∷ []) a e ≡ open_weight placed a e = ap (λ b. cond (e.0 == a) (cond b 0 1) 0) same in
          omega arith
    ]

pub open_count_push : (edges : List (ℕ × ℕ)) (placed : List ℕ) (k a : ℕ) → has placed k ≡ false → open_count edges (placed ++ k ∷ []) a + edge_count edges k a ≡ open_count edges placed a
open_count_push [] placed k a new = refl
open_count_push (e ∷ es) placed k a new =
    omega (arith, weight_push placed k a e new, open_count_push es placed k a new)

-- an edge the other way round
abbrev pub turn : ℕ × ℕ → ℕ × ℕ
turn e = (e.1, e.0)

ends_in_part : (k a : ℕ) (pairs : List (ℕ × ℕ)) → ends_with (filter (λ p. p.0 == k) pairs) a ≡ sum_by (λ p. edge_weight k a (turn p)) pairs
ends_in_part k a [] = refl
ends_in_part k a (p ∷ ps) =
    let rest = ends_in_part k a ps in
    let right = sum_by-cons (λ p. edge_weight k a (turn p)) p ps in
    elim (cases_Bool (p.0 == k)) as (λ _. ends_with (filter (λ p. p.0 == k) (p ∷ ps)) a ≡ sum_by (λ p. edge_weight k a (turn p)) (p ∷ ps)) [
      | inl t ↦
          let kept : filter (λ p. p.0 == k) (p ∷ ps) ≡ p ∷ filter (λ p. p.0 == k) ps = ap (λ b. cond b (p ∷ filter (λ p. p.0 == k) ps) (filter (λ p. p.0 == k) ps)) t in
          let left = sum_by-cons (λ q. hit q.1 a) p (filter (λ p. p.0 == k) ps) in
          let weight : edge_weight k a (turn p) ≡ hit p.1 a = ap (λ b. cond b (hit p.1 a) 0) t in
          omega (arith, ap (λ zs. ends_with zs a) kept)
      | inr t ↦
          let kept : filter (λ p. p.0 == k) (p ∷ ps) ≡ filter (λ p. p.0 == k) ps = ap (λ b. cond b (p ∷ filter (λ p. p.0 == k) ps) (filter (λ p. p.0 == k) ps)) t in
          let weight : edge_weight k a (turn p) ≡ 0 = ap (λ b. cond b (hit p.1 a) 0) t in
          omega (arith, ap (λ zs. ends_with zs a) kept)
    ]

sum_inverse : (k a : ℕ) (edges : List (ℕ × ℕ)) → sum_by (λ p. edge_weight k a (turn p)) (map turn edges) ≡ edge_count edges k a
sum_inverse k a [] = refl
sum_inverse k a (e ∷ es) = omega (arith, sum_by-cons (λ p. edge_weight k a (turn p)) (turn e) (map turn es), sum_inverse k a es)

-- the pairs of k among the turned edges
pub ends_with_part : (edges pairs : List (ℕ × ℕ)) (k a : ℕ) → IsPermutation (map turn edges) pairs → ends_with (filter (λ p. p.0 == k) pairs) a ≡ edge_count edges k a
ends_with_part edges pairs k a perm =
    ends_in_part k a pairs ∙ (sum_by-IsPermutation (λ p. edge_weight k a (turn p)) (map turn edges) pairs perm ∙ sum_inverse k a edges)

pub part_within : (n : ℕ) (edges pairs : List (ℕ × ℕ)) (k : ℕ) → AreWithin n edges → IsPermutation (map turn edges) pairs → All (λ p. p.1 < n) (filter (λ p. p.0 == k) pairs)
part_within n edges pairs k ends perm =
    All-filter (λ p. p.0 == k) (λ p. p.1 < n) pairs (All-permutation (λ p. p.1 < n) (map turn edges) pairs perm (All-map (λ p. p.1 < n) turn edges (λ i d l. (ends i d l).0)))
