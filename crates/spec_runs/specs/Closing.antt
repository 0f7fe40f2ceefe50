-- How an order is brought to its end: the sections left, writer by writer, and then each proxy's pumps until it has nothing
-- left to take, in the dependency order of the lists.
use Rattle.std.specs.Prelude.{◌≡◌, ◌==◌, ◌++◌, ℕ, zero, suc, List, [], ◌∷◌, length, fold, flat_map, replicate, if◌then◌else◌, Bool, true, false}
use Rattle.std.specs.List.{range_with_len}
use Rattle.gl_outside.specs.declared.gate.Actor.{Actor}
use Rattle.gl_outside.specs.declared.gate.Actor.TheVariants.{Writer, Proxy}
use Rattle.spec_plans.specs.DependencyOrder.{dependency_order}
use Rattle.spec_plans.specs.Plan.{Plan, list_edges, proxies_of}
use Rattle.spec_states.specs.State.{own_at}
use Rattle.spec_runs.specs.Run.{run, left_to}
use Rattle.spec_runs.specs.Fits.{Fits, IsWhole, queue_of}

-- the sections that an order leaves, writer by writer
abbrev pub sections_left : Plan → List Actor → List Actor
sections_left p order =
    flat_map (λ w. replicate (left_to p w order) (Writer w)) (range_with_len 0 (length p.writers))

-- where a number stands in a list, as the one entry of a list; none where it doesn't
abbrev pub places_of : ℕ → ℕ → List ℕ → List ℕ
places_of at list [] = []
places_of at list (k ∷ ks) = if k == list then at ∷ [] else places_of (suc at) list ks

-- a list as an actor, if it is a proxy
abbrev pub actors_of : Plan → ℕ → List ℕ
actors_of p list = places_of 0 list (proxies_of p)

-- a proxy's pumps until it has nothing left to take, after an order
abbrev pub pumped_empty : Plan → ℕ → List Actor → ℕ → List Actor
pumped_empty p list order n =
    order ++ replicate (length (queue_of (own_at (run p order).state list))) (Proxy n)

abbrev pub pumped_list : Plan → List Actor → ℕ → List Actor
pumped_list p order list = fold (pumped_empty p list) order (actors_of p list)

-- the order with all that is left
abbrev pub close : Plan → List Actor → List Actor
close p order =
    fold (pumped_list p) (order ++ sections_left p order)
    (dependency_order (length p.lists) (list_edges p))

-- where an order fits, what it is brought to is whole
abbrev pub ClosingIsWhole : Plan → Type 0
ClosingIsWhole p = (order : List Actor) → Fits p order → IsWhole p (close p order)
