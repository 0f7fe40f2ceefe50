-- How far a proxy has come: the beginning of an order up to which its input's deltas are taken.
use Rattle.std.specs.Prelude.{◌==◌, ◌&&◌, ◌++◌, ◌-◌, not, ℕ, suc, List, [], ◌∷◌, length, Bool, true, false, if◌then◌else◌}
use Rattle.spec_lists.specs.Delta.{Delta, is_identity}
use Rattle.gl_outside.specs.declared.gate.Actor.{Actor}
use Rattle.gl_outside.specs.declared.gate.Actor.TheVariants.{Writer, Proxy}
use Rattle.spec_plans.specs.Plan.{Plan}
use Rattle.spec_states.specs.Wave.{delta_in}
use Rattle.spec_runs.specs.Entry.{Outcome, outcome, next_deed}
use Rattle.spec_runs.specs.Run.{run}

-- whether an actor is this proxy
abbrev pub is_proxy : ℕ → Actor → Bool
is_proxy n (Writer w) = false
is_proxy n (Proxy p) = p == n

-- how many pumps of a proxy an order has
abbrev pub pumps_of : ℕ → List Actor → ℕ
pumps_of n [] = 0
pumps_of n (a ∷ order) = if is_proxy n a then suc (pumps_of n order) else pumps_of n order

-- the delta of a list in an actor's next entry after an order
abbrev pub entry_delta : Plan → List Actor → Actor → ℕ → Delta
entry_delta p order a list =
    delta_in (outcome p.limit (run p order).state (next_deed p order a)).deltas list

-- how many of so many changes of a list are left after an entry
abbrev pub left_after : Delta → ℕ → ℕ
left_after d k = if is_identity d then k else k - 1

-- The part of what is left of an order, after what was taken, that stands before the entry after so many, k, in which the list
-- changed; all of it where there is none.
abbrev pub before_change : Plan → ℕ → List Actor → ℕ → List Actor → List Actor
before_change p list taken k [] = []
before_change p list taken k (a ∷ rest) =
    unless (k == 0 && not (is_identity (entry_delta p taken a list)))
    (a ∷ before_change p list (taken ++ a ∷ []) (left_after (entry_delta p taken a list) k) rest)
  where
    unless : Bool → List Actor → List Actor
    unless true later = []
    unless false later = later

-- the beginning of an order that a proxy, the n-th, has come to, whose input is this list: all that stands before the first entry
-- that changed its input and that it hasn't pumped
abbrev pub prefix : Plan → ℕ → ℕ → List Actor → List Actor
prefix p n input order = before_change p input [] (pumps_of n order) order
