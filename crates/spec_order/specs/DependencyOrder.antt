-- The dependency order, computed: for definitions that go through items in that order.
use Rattle.std.specs.Prelude.{◌≡◌, ℕ, zero, suc, Bool, not, ◌||◌, ◌&&◌, ◌==◌, List, [], ◌∷◌, ◌++◌, Option, Some, None, if◌then◌else◌, refl}
use Rattle.std.specs.List.{list_any, list_all}
use Rattle.std.specs.Option.{option_to_list}

-- whether x is among xs
abbrev pub has : List ℕ → ℕ → Bool
has xs x = list_any (λ y. y == x) xs

-- whether k is not placed, and all that it depends on is placed
abbrev pub is_ready : List (ℕ × ℕ) → List ℕ → ℕ → Bool
is_ready edges placed k =
    not (has placed k) && list_all (λ e. not (e.0 == k) || has placed e.1) edges

-- the first of the m numbers from k on that passes
abbrev pub first_from : (ℕ → Bool) → ℕ → ℕ → Option ℕ
first_from p k zero = None
first_from p k (suc m) = if p k then Some k else first_from p (suc k) m

-- what comes next after those placed, if anything may
abbrev pub next_turn : ℕ → List (ℕ × ℕ) → List ℕ → Option ℕ
next_turn n edges placed = first_from (is_ready edges placed) 0 n

-- those placed, and after them what comes next, one after another, at most so many
abbrev pub order_after : ℕ → ℕ → List (ℕ × ℕ) → List ℕ → List ℕ
order_after zero n edges placed = placed
order_after (suc m) n edges placed =
    order_after m n edges (placed ++ option_to_list (next_turn n edges placed))

-- the dependency order of n numbers, up to where none may come next
abbrev pub dependency_order : ℕ → List (ℕ × ℕ) → List ℕ
dependency_order n edges = order_after n n edges []

chain : dependency_order 3 ((0, 2) ∷ (1, 0) ∷ []) ≡ 2 ∷ 0 ∷ 1 ∷ []
chain = refl

-- nothing depends on anything
apart : dependency_order 3 [] ≡ 0 ∷ 1 ∷ 2 ∷ []
apart = refl

-- 0 depends on 3 and 1, and both of them on 2
diamond : dependency_order 4 ((0, 3) ∷ (0, 1) ∷ (3, 2) ∷ (1, 2) ∷ []) ≡ 2 ∷ 1 ∷ 3 ∷ 0 ∷ []
diamond = refl

nothing : dependency_order 0 [] ≡ []
nothing = refl
