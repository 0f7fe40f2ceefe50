-- The state of a plan: what each list keeps of its own. What lists show is no part of it.
use Rattle.std.specs.Prelude.{ℕ, List, [], ◌∷◌, ◌++◌, length, map, unwrap_or, slice_get, Option, Some, None}
use Rattle.spec_value.specs.Tree.{Tree}
use Rattle.spec_order.specs.DependencyOrder.{dependency_order as dependency_order_of}
use Rattle.spec_lists.specs.Delta.{Delta}
use Rattle.spec_views.specs.View.{View, filter, sorted, unique, grouping, range, function, collection}
use Rattle.gl_lines.specs.declared.plan.ListKind.{ListKind}
use Rattle.gl_lines.specs.declared.plan.ListKind.TheVariants.{Source, Filter, Sorted, Unique, Grouping, Range, Function, Collection, Composite, Transaction, Freezable, Proxy}
use Rattle.spec_plans.specs.Plan.{Plan, edges_from}

-- What a list keeps of its own: a source its contents; a list over one input that input and its present parameter; a composite
-- what it depends on, and its present members; a transaction list its source and the deltas of its open levels, the innermost
-- first; a freezable list its input and, while it is frozen, the delta since then; a proxy its input, the list that it shows,
-- and the deltas that it is yet to take, the first one first.
pub data Own : Type 0 where
  source : List Tree → Own
  over : ℕ → View → Own
  composite : List ℕ → List ℕ → Own
  transaction : ℕ → List Delta → Own
  freezable : ℕ → Option Delta → Own
  proxy : ℕ → List Tree → List Delta → Own

-- a state is what each list keeps, by number
abbrev pub State : Type 0
State = List Own

-- what a list opens with, where this is what every list shows
abbrev pub opening_of : (ℕ → List Tree) → ListKind → Own
opening_of shows (Source rows) = source rows
opening_of shows (Filter input matcher) = over input (filter matcher)
opening_of shows (Sorted input order) = over input (sorted order)
opening_of shows (Unique input order) = over input (unique order)
opening_of shows (Grouping input order) = over input (grouping order)
opening_of shows (Range input bounds) = over input (range bounds)
opening_of shows (Function input func) = over input (function func)
opening_of shows (Collection input kids) = over input (collection kids)
opening_of shows (Composite members may) = composite (members ++ may) members
opening_of shows (Transaction input) = transaction input []
opening_of shows (Freezable input) = freezable input None
opening_of shows (Proxy input) = proxy input (shows input) []

-- the numbers of the lists that a list depends on
abbrev pub inputs : Own → List ℕ
inputs (source contents) = []
inputs (over input view) = input ∷ []
inputs (composite needed members) = needed
inputs (transaction input levels) = input ∷ []
inputs (freezable input since) = input ∷ []
inputs (proxy input kept queue) = input ∷ []

-- what a list of the state keeps; past the end an empty source
abbrev pub own_at : State → ℕ → Own
own_at s list = unwrap_or (slice_get s list) (source [])

-- which list depends on which
abbrev pub edges_of : State → List (ℕ × ℕ)
edges_of s = edges_from 0 (map inputs s)

-- the numbers of the lists in the dependency order: each after those that it depends on, and the least number first where
-- several may come next
abbrev pub dependency_order : State → List ℕ
dependency_order s = dependency_order_of (length s) (edges_of s)
