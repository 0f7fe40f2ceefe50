-- Plans whose dependencies go round, and the cycle that is named.
use Rattle.std.specs.Prelude.{◌≡◌, ◌⊎◌, ℕ, List, [], map, unwrap_or, slice_get}
use Rattle.spec_order.specs.Cycle.{HasCycle, IsFirstCycle}
use Rattle.spec_plans.specs.Plan.{Plan, list_edges, listener_edges}

-- the names of numbers
abbrev pub names_of : List (List ℕ) → List ℕ → List (List ℕ)
names_of names numbers = map (λ k. unwrap_or (slice_get names k) []) numbers

-- these are the names of the first cycle
abbrev pub NamesCycle : List (ℕ × ℕ) → List (List ℕ) → List (List ℕ) → Type 0
NamesCycle edges all names =
    (cycle : List ℕ) × IsFirstCycle edges cycle × (names ≡ names_of all cycle)

-- no list and no listener depends on itself through others
pub record IsAcyclic (p : Plan) : Type 0 where
  pub lists : ¬ HasCycle (list_edges p)
  pub listeners : ¬ HasCycle (listener_edges p)

-- the names of the first cycle of the lists, or else of the listeners by `after`
abbrev pub IsCycleOf : Plan → List (List ℕ) → Type 0
IsCycleOf p names =
    NamesCycle (list_edges p) (map (λ d. d.name) p.lists) names
    ⊎ (¬ HasCycle (list_edges p))
    × NamesCycle (listener_edges p) (map (λ d. d.name) p.listeners) names
