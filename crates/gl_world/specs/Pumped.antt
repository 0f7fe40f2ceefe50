-- What pumping a proxy means.
use Rattle.std.specs.Prelude.{◌≡◌, ℕ, List, [], length, slice_index}
use Rattle.gl_outside.specs.declared.gate.Actor.{Actor}
use Rattle.gl_outside.specs.declared.gate.Actor.TheVariants.{Proxy}
use Rattle.spec_states.specs.Delta.{Delta}
use Rattle.spec_states.specs.Plan.{Plan, proxies_of}
use Rattle.spec_states.specs.State.{own_at}
use Rattle.spec_runs.specs.Run.{run}
use Rattle.spec_runs.specs.Fits.{queue_of}
use Rattle.gl_world.specs.History.{History, with_entry}
use Rattle.gl_world.specs.declared.pumped.Pumped.{Pumped}
use Rattle.gl_world.specs.declared.pumped.Pumped.TheVariants.{Done, Nothing}

-- what the n-th proxy of a plan is yet to take after an order
abbrev pub queue_after : Plan → List Actor → ℕ → List Delta
queue_after p order n = queue_of (own_at (run p order).state (slice_index (proxies_of p) n))

-- Where the proxy has something to take, its pump is the new last entry; else the answer names the proxy and the number of
-- entries, and nothing changes.
abbrev pub TakesPump : {N : Type 0} → ℕ → History → Pumped N → History → Type 0
TakesPump proxy old (Done place) new =
    ¬ (queue_after old.plan old.order proxy ≡ []) × (place ≡ length old.order)
    × (new ≡ with_entry old (Proxy proxy))
TakesPump proxy old (Nothing idle) new =
    (queue_after old.plan old.order proxy ≡ [])
    × (idle ≡ record { proxy = proxy; entries = length old.order }) × (new ≡ old)
