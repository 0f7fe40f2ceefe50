-- The numbers of a cycle.
use Rattle.std.proofs.Common.{◌≡◌, ℕ, ◌<◌, List, [], ◌∷◌, subst, sym}
use Rattle.std.specs.Prelude.{All}
use Rattle.std.proofs.lemmas.List.Elements.{All-nil, All-cons, All-contains}
use Rattle.spec_plans.specs.Edges.{AreWithin}
use Rattle.spec_plans.specs.Cycle.{IsWalk, IsCycle, IsFirstCycle}

walk_within : (n : ℕ) (edges : List (ℕ × ℕ)) (a : ℕ) (xs : List ℕ) (b : ℕ) → AreWithin n edges → IsWalk edges a xs b → All (λ k. k < n) (a ∷ xs)
walk_within n edges a [] b within walk =
    All-cons (λ k. k < n) a [] (All-contains (λ e. (e.0 < n) × (e.1 < n)) edges (a, b) within walk).0 (All-nil (λ k. k < n))
walk_within n edges a (x ∷ xs) b within walk =
    All-cons (λ k. k < n) a (x ∷ xs) (All-contains (λ e. (e.0 < n) × (e.1 < n)) edges (a, x) within walk.0).0
    (walk_within n edges x xs b within walk.1)

-- they are numbers of the items
pub cycle_within : (n : ℕ) (edges : List (ℕ × ℕ)) (cycle : List ℕ) → AreWithin n edges → IsCycle edges cycle → All (λ k. k < n) cycle
cycle_within n edges [] within closed = absurd closed
cycle_within n edges (x ∷ xs) within closed = walk_within n edges x xs x within closed

pub first_within : (n : ℕ) (edges : List (ℕ × ℕ)) (cycle numbers : List ℕ) → AreWithin n edges → IsFirstCycle edges cycle → numbers ≡ cycle → All (λ k. k < n) numbers
first_within n edges cycle numbers within first same = subst (All (λ k. k < n)) (sym same) (cycle_within n edges cycle within first.closed)
