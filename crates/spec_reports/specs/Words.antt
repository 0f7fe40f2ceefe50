-- What the words of a call ask for.
use Rattle.std.specs.Prelude.{◌≡◌, ◌≤◌, ⊤, ℕ, List, [], ◌∷◌, codes, decimal}
use Rattle.gl_outside.specs.declared.gate.Actor.{Actor}
use Rattle.spec_reports.specs.Order.{AsksReplay}

-- the one text of a plan, the report of a plan in an order, the report of a run whose actors take the lock in an order of their
-- own, or the summary of the large plan of a size
pub data Request : Type 0 where
  check : Request
  replay : List Actor → Request
  run : Request
  big : ℕ → Request

-- which requests are built
abbrev pub IsBuilt : Request → Type 0
IsBuilt check = ⊤
IsBuilt (replay order) = ⊤
IsBuilt run = ⊥
IsBuilt (big n) = ⊤

-- the words ask for the summary of this size
pub record AsksBig (words : List (List ℕ)) (n : ℕ) : Type 0 where
  pub are : words ≡ codes "big" ∷ decimal n ∷ []
  pub least : 1 ≤ n
  pub most : n ≤ 10000

abbrev pub Asks : List (List ℕ) → Request → Type 0
Asks words check = words ≡ codes "check" ∷ []
Asks words (replay order) = AsksReplay words order
Asks words run = IsBuilt run × (words ≡ codes "run" ∷ [])
Asks words (big n) = IsBuilt (big n) × AsksBig words n

-- the words ask for nothing that there is
abbrev pub HaveNoForm : List (List ℕ) → Type 0
HaveNoForm words = (request : Request) → ¬ Asks words request
