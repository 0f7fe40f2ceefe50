-- Membership in a list, and how often a number is in it.
use Rattle.std.proofs.Common.{◌≡◌, ℕ, zero, suc, ◌+◌, ◌<◌, ◌≤◌, ◌⊎◌, inl, inr, true, false, cond, ◌||◌, eqb, List, [], ◌∷◌, ◌++◌, length, get_or, refl, sym, ap, ◌∙◌, subst, arith}
use Rattle.std.specs.Prelude.{All, Contains}
use Rattle.std.proofs.lemmas.List.Elements.{All-head, All-tail}
use Rattle.std.proofs.lemmas.Bool.{cases_lt, cases_eq, eq-eqb, ne_eqb, cases_Bool}
use Rattle.spec_order.specs.DependencyOrder.{has}

-- an element of x ∷ xs is x or an element of xs
Contains-at : {X : Type 0} (x : X) (xs : List X) (y : X) (k : ℕ) → k < length (x ∷ xs) → get_or (x ∷ xs) k y ≡ y → (x ≡ y) ⊎ Contains xs y
Contains-at x xs y zero l e = inl e
Contains-at x xs y (suc k) l e = inr (k, omega arith, e)

pub Contains-cons_cases : {X : Type 0} (x : X) (xs : List X) (y : X) → Contains (x ∷ xs) y → (x ≡ y) ⊎ Contains xs y
Contains-cons_cases x xs y h = Contains-at x xs y h.0 h.1 h.2

pub Contains-here : {X : Type 0} (x : X) (xs : List X) (y : X) → x ≡ y → Contains (x ∷ xs) y
Contains-here x xs y e = (0, omega arith, e)

pub Contains-later : {X : Type 0} (x : X) (xs : List X) (y : X) → Contains xs y → Contains (x ∷ xs) y
Contains-later x xs y h = (suc (h.0), omega arith, h.2)

pub Contains-nil : {X : Type 0} (y : X) → ¬ Contains [] y
Contains-nil y h = absurd (omega arith)

-- a number is in a list or it isn't
pub member : (xs : List ℕ) (x : ℕ) → Contains xs x ⊎ (¬ Contains xs x)
member [] x = inr (Contains-nil x)
member (y ∷ ys) x =
    elim (cases_eq y x) as (λ _. Contains (y ∷ ys) x ⊎ (¬ Contains (y ∷ ys) x)) [
      | inl e ↦ inl (Contains-here y ys x e)
      | inr ne ↦ elim (member ys x) as (λ _. Contains (y ∷ ys) x ⊎ (¬ Contains (y ∷ ys) x)) [
        | inl h ↦ inl (Contains-later y ys x h)
        | inr nh ↦ inr (λ h. elim (Contains-cons_cases y ys x h) as (λ _. ⊥) [ inl e ↦ ne e | inr k ↦ nh k ])
      ]
    ]

-- `has` says whether a number is in a list
pub has-true : (xs : List ℕ) (x : ℕ) → has xs x ≡ true → Contains xs x
has-true [] x h = cc
has-true (y ∷ ys) x h =
    elim (cases_eq y x) as (λ _. Contains (y ∷ ys) x) [
      | inl e ↦ Contains-here y ys x e
      | inr ne ↦ Contains-later y ys x (has-true ys x (sym (ap (λ b. b || has ys x) (ne_eqb y x ne)) ∙ h))
    ]

pub true_from_Contains : (xs : List ℕ) (x : ℕ) → Contains xs x → has xs x ≡ true
true_from_Contains [] x h = absurd (Contains-nil x h)
true_from_Contains (y ∷ ys) x h =
    elim (Contains-cons_cases y ys x h) as (λ _. has (y ∷ ys) x ≡ true) [
      | inl e ↦ ap (λ b. b || has ys x) (eq-eqb y x e)
      | inr k ↦ elim (cases_Bool (eqb y x)) as (λ _. has (y ∷ ys) x ≡ true) [
        | inl e ↦ ap (λ b. b || has ys x) e
        | inr e ↦ ap (λ b. b || has ys x) e ∙ true_from_Contains ys x k
      ]
    ]

pub has-false : (xs : List ℕ) (x : ℕ) → has xs x ≡ false → ¬ Contains xs x
has-false xs x h k = let t = true_from_Contains xs x k in cc

-- 1 where the numbers are equal
abbrev pub hit : ℕ → ℕ → ℕ
hit x j = cond (eqb x j) 1 0

-- how often j is in the list
abbrev pub times : ℕ → List ℕ → ℕ
times j [] = 0
times j (x ∷ xs) = hit x j + times j xs

pub hit_same : (x j : ℕ) → x ≡ j → hit x j ≡ 1
hit_same x j e = ap (λ b. cond b 1 0) (eq-eqb x j e)

pub hit_other : (x j : ℕ) → (x ≡ j → ⊥) → hit x j ≡ 0
hit_other x j ne = ap (λ b. cond b 1 0) (ne_eqb x j ne)

pub times-append : (j : ℕ) (xs ys : List ℕ) → times j (xs ++ ys) ≡ times j xs + times j ys
times-append j [] ys = omega arith
times-append j (x ∷ xs) ys = omega (arith, times-append j xs ys)

pub times_none : (j : ℕ) (xs : List ℕ) → ¬ Contains xs j → times j xs ≡ 0
times_none j [] h = refl
times_none j (x ∷ xs) h =
    omega (arith, hit_other x j (λ e. h (Contains-here x xs j e)), times_none j xs (λ k. h (Contains-later x xs j k)))

pub Contains-from_times : (j : ℕ) (xs : List ℕ) → 0 < times j xs → Contains xs j
Contains-from_times j xs p =
    elim (member xs j) as (λ _. Contains xs j) [ inl h ↦ h | inr n ↦ absurd (omega (arith, times_none j xs n)) ]

pub times_some : (j : ℕ) (xs : List ℕ) → Contains xs j → 0 < times j xs
times_some j [] h = absurd (Contains-nil j h)
times_some j (x ∷ xs) h =
    elim (Contains-cons_cases x xs j h) as (λ _. 0 < times j (x ∷ xs)) [
      | inl e ↦ omega (arith, hit_same x j e)
      | inr k ↦ omega (arith, times_some j xs k)
    ]

-- f 0 + .. + f (n - 1)
abbrev pub below : (ℕ → ℕ) → ℕ → ℕ
below f zero = 0
below f (suc n) = below f n + f n

below_zero : (n : ℕ) → below (λ j. 0) n ≡ 0
below_zero zero = refl
below_zero (suc n) = omega (arith, below_zero n)

below-add : (f g : ℕ → ℕ) (n : ℕ) → below (λ j. f j + g j) n ≡ below f n + below g n
below-add f g zero = refl
below-add f g (suc n) = omega (arith, below-add f g n)

below_hit_past : (x n : ℕ) → n ≤ x → below (hit x) n ≡ 0
below_hit_past x zero l = refl
below_hit_past x (suc n) l = omega (arith, below_hit_past x n (omega arith), hit_other x n (λ e. omega arith))

below_hit : (x n : ℕ) → x < n → below (hit x) n ≡ 1
below_hit x zero l = absurd (omega arith)
below_hit x (suc n) l =
    elim (cases_eq x n) as (λ _. below (hit x) (suc n) ≡ 1) [
      | inl e ↦ omega (arith, below_hit_past x n (omega arith), hit_same x n e)
      | inr ne ↦ omega (arith, below_hit x n (omega arith), hit_other x n ne)
    ]

-- each number below n, counted in a list
pub below_times_le : (n : ℕ) (xs : List ℕ) → below (λ j. times j xs) n ≤ length xs
below_times_le n [] = omega (arith, below_zero n)
below_times_le n (x ∷ xs) =
    elim (cases_lt x n) as (λ _. below (λ j. times j (x ∷ xs)) n ≤ length (x ∷ xs)) [
      | inl l ↦ omega (arith, below-add (hit x) (λ j. times j xs) n, below_hit x n l, below_times_le n xs)
      | inr g ↦ omega (arith, below-add (hit x) (λ j. times j xs) n, below_hit_past x n g, below_times_le n xs)
    ]

pub below_times : (n : ℕ) (xs : List ℕ) → All (λ x. x < n) xs → below (λ j. times j xs) n ≡ length xs
below_times n [] h = below_zero n
below_times n (x ∷ xs) h =
    omega (arith, below-add (hit x) (λ j. times j xs) n, below_hit x n (All-head (λ x. x < n) x xs h), below_times n xs (All-tail (λ x. x < n) x xs h))

pub below_some : (f : ℕ → ℕ) (n : ℕ) → ((j : ℕ) → j < n → 0 < f j) → n ≤ below f n
below_some f zero h = omega arith
below_some f (suc n) h = omega (arith, below_some f n (λ j l. h j (omega arith)), h n (omega arith))

pub below_once : (f : ℕ → ℕ) (n : ℕ) → ((j : ℕ) → f j ≤ 1) → below f n ≤ n
below_once f zero h = omega arith
below_once f (suc n) h = omega (arith, below_once f n h, h n)

pub below_all : (f : ℕ → ℕ) (n j : ℕ) → ((j : ℕ) → f j ≤ 1) → below f n ≡ n → j < n → 0 < f j
below_all f zero j h e l = absurd (omega arith)
below_all f (suc n) j h e l =
    elim (cases_eq j n) as (λ _. 0 < f j) [
      | inl q ↦ subst (λ (i : ℕ). 0 < f i) (sym q) (omega (arith, below_once f n h, h n))
      | inr ne ↦ below_all f n j h (omega (arith, below_once f n h, h n)) (omega arith)
    ]

-- a list that has fewer than n items lacks some number below n
missing_or_all : (n : ℕ) (xs : List ℕ) → ((j : ℕ) × (j < n) × (¬ Contains xs j)) ⊎ ((j : ℕ) → j < n → Contains xs j)
missing_or_all zero xs = inr (λ j l. absurd (omega arith))
missing_or_all (suc n) xs =
    let Goal : Type 0 = ((j : ℕ) × (j < suc n) × (¬ Contains xs j)) ⊎ ((j : ℕ) → j < suc n → Contains xs j) in
    elim (missing_or_all n xs) as (λ _. Goal) [
      | inl m ↦ inl (m.0, omega (arith, m.1), m.2)
      | inr all ↦ elim (member xs n) as (λ _. Goal) [
        | inr lacks ↦ inl (n, omega arith, lacks)
        | inl has_n ↦ inr (λ j l. elim (cases_eq j n) as (λ _. Contains xs j) [
          | inl e ↦ subst (λ (i : ℕ). Contains xs i) (sym e) has_n
          | inr ne ↦ all j (omega arith)
        ])
      ]
    ]

pub missing : (n : ℕ) (xs : List ℕ) → length xs < n → (j : ℕ) × (j < n) × (¬ Contains xs j)
missing n xs short =
    elim (missing_or_all n xs) as (λ _. (j : ℕ) × (j < n) × (¬ Contains xs j)) [
      | inl m ↦ m
      | inr all ↦ absurd (omega (arith, below_some (λ j. times j xs) n (λ j l. times_some j xs (all j l)), below_times_le n xs))
    ]

-- numbers below n that are all different are at most n
pub length_distinct : (n : ℕ) (xs : List ℕ) → All (λ x. x < n) xs → ((j : ℕ) → times j xs ≤ 1) → length xs ≤ n
length_distinct n xs low once = omega (arith, below_times n xs low, below_once (λ j. times j xs) n once)

-- n numbers below n that are all different are all of them
pub Contains-distinct : (n : ℕ) (xs : List ℕ) → length xs ≡ n → All (λ x. x < n) xs → ((j : ℕ) → times j xs ≤ 1) → (j : ℕ) → j < n → Contains xs j
Contains-distinct n xs len low once j l =
    Contains-from_times j xs (below_all (λ j. times j xs) n j once (below_times n xs low ∙ len) l)
