-- A run: the entries that the actors make, in the order in which they take the lock.
use Rattle.std.specs.Prelude.{◌++◌, ◌-◌, ℕ, List, [], ◌∷◌, length, fold, unwrap_or, slice_get}
use Rattle.spec_value.specs.Tree.{Tree}
use Rattle.gl_outside.specs.declared.gate.Actor.{Actor}
use Rattle.gl_lines.specs.declared.reply.Reply.{Reply}
use Rattle.spec_plans.specs.Plan.{Plan, sections_of}
use Rattle.spec_states.specs.State.{State}
use Rattle.spec_states.specs.Shown.{shown}
use Rattle.spec_states.specs.Opening.{opening}
use Rattle.spec_runs.specs.Entry.{Deed, Outcome, outcome, next_deed, taken_by, queued}
use Rattle.spec_runs.specs.Telling.{Telling, tellings}

-- how many of its sections an order leaves to a writer
abbrev pub left_to : Plan → ℕ → List Actor → ℕ
left_to p writer order = length (sections_of p writer) - taken_by writer order

-- the order so far, the state after it, the replies of each entry, and all tellings in the order told
pub record Run : Type 0 where
  pub order : List Actor
  pub state : State
  pub replies : List (List Reply)
  pub told : List Telling

-- before the first entry
abbrev pub start : Plan → Run
start p = record { order = []; state = opening p; replies = []; told = [] }

-- the run once this came of an actor's entry
abbrev pub entered : Plan → Run → Actor → Outcome → Run
entered p r a done = record {
  order = r.order ++ a ∷ [];
  state = queued done.deltas done.state;
  replies = r.replies ++ done.replies ∷ [];
  told = r.told ++ tellings p (length r.order) done.deltas;
}

-- one entry more
abbrev pub entry : Plan → Run → Actor → Run
entry p r a = entered p r a (outcome p.limit r.state (next_deed p r.order a))

-- the run of a plan in an order
abbrev pub run : Plan → List Actor → Run
run p order = fold (entry p) (start p) order

-- the replies of the entry at a place; none where there is no such place
abbrev pub replies_at : Plan → List Actor → ℕ → List Reply
replies_at p order place = unwrap_or (slice_get (run p order).replies place) []

-- what a list shows after an order
abbrev pub shown_after : Plan → List Actor → ℕ → List Tree
shown_after p order list = shown (run p order).state list
