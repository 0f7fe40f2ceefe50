-- The state that a plan opens with.
use Rattle.std.specs.Prelude.{ℕ, List, [], map, None}
use Rattle.spec_value.specs.Tree.{Tree}
use Rattle.gl_lines.specs.declared.plan.ListKind.{ListKind}
use Rattle.gl_lines.specs.declared.plan.ListKind.TheVariants.{Proxy}
use Rattle.spec_plans.specs.Plan.{Plan}
use Rattle.spec_states.specs.State.{Own, State, freezable, opening_of}
use Rattle.spec_states.specs.Shown.{shown}

-- what a list opens with, where a proxy is seen through: it shows what its input does
abbrev pub seen_through : ListKind → Own
seen_through (Proxy input) = freezable input None
seen_through other = opening_of (λ list. []) other

-- what the lists of a plan show before anything happens
abbrev pub shown_first : Plan → ℕ → List Tree
shown_first p = shown (map (λ d. seen_through d.kind) p.lists)

-- the state that a plan opens with: nothing is frozen or open, and each proxy shows what its input does and has an empty queue
abbrev pub opening : Plan → State
opening p = map (λ d. opening_of (shown_first p) d.kind) p.lists
