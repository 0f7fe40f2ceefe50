-- What listeners are told: at the end of an entry, the delta of their list.
use Rattle.std.specs.Prelude.{ℕ, if◌then◌else◌, Bool, true, false, List, [], ◌∷◌, length, flat_map, Option, Some, None, slice_get}
use Rattle.spec_lists.specs.Delta.{Delta, is_identity}
use Rattle.spec_plans.specs.DependencyOrder.{dependency_order}
use Rattle.gl_lines.specs.declared.plan.ListenerDecl.{ListenerDecl}
use Rattle.spec_plans.specs.Plan.{Plan, listener_edges}
use Rattle.spec_states.specs.Wave.{Deltas, delta_in}

-- a listener, the place of the entry at which it was told, the delta that it was told, and how often it was refused to write
-- back
pub record Telling : Type 0 where
  pub listener : ℕ
  pub place : ℕ
  pub delta : Delta
  pub write_backs : ℕ

-- an echo listener tries to write back once
abbrev pub attempts : Bool → ℕ
attempts true = 1
attempts false = 0

-- a listener is told every delta but the identity
abbrev pub telling_of : ℕ → ℕ → Bool → Delta → List Telling
telling_of place listener echo delta =
    if is_identity delta then []
    else record { listener = listener; place = place; delta = delta; write_backs = attempts echo }
    ∷ []

-- what a listener of the plan is told at a place, where these are the deltas of the lists
abbrev pub told_one : List ListenerDecl → ℕ → Deltas → ℕ → List Telling
told_one listeners place deltas listener = by_decl (slice_get listeners listener)
  where
    by_decl : Option ListenerDecl → List Telling
    by_decl None = []
    by_decl (Some d) = telling_of place listener d.echo (delta_in deltas d.list)

-- the listeners in the order in which they are told: each after those that it is told after, and the least number
-- first where several may come next
abbrev pub listener_dependency_order : Plan → List ℕ
listener_dependency_order p = dependency_order (length p.listeners) (listener_edges p)

-- the tellings of the entry at a place, in which these are the deltas of the lists
abbrev pub tellings : Plan → ℕ → Deltas → List Telling
tellings p place deltas = flat_map (told_one p.listeners place deltas) (listener_dependency_order p)
