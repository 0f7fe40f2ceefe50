-- The names that a plan gives its lists and listeners.
use Rattle.std.specs.Prelude.{ℕ, List, [], map, slice_get, unwrap_or}
use Rattle.gl_lines.specs.declared.named.Named.{Named}
use Rattle.spec_plans.specs.Plan.{Plan}

-- a name that stands in no text yet
abbrev pub unplaced_name : List ℕ → Named
unplaced_name name = record { name = name; column = 0 }

-- the name of a number
abbrev pub named : List (List ℕ) → ℕ → Named
named names k = unplaced_name (unwrap_or (slice_get names k) [])

-- the names of the lists of a plan, and those of its listeners
abbrev pub names_of_lists : Plan → List (List ℕ)
names_of_lists p = map (λ d. d.name) p.lists

abbrev pub names_of_listeners : Plan → List (List ℕ)
names_of_listeners p = map (λ d. d.name) p.listeners
