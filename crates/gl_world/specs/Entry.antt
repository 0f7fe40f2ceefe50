-- What came of an actor's next entry, before it is written down.
use Rattle.std.specs.Prelude.{◌≡◌, List}
use Rattle.gl_plan.specs.Whole.{IsWhole}
use Rattle.gl_outside.specs.declared.gate.Actor.{Actor}
use Rattle.spec_states.specs.Plan.{Plan}
use Rattle.spec_states.specs.Shown.{table_of}
use Rattle.spec_runs.specs.Entry.{Outcome, outcome, next_deed}
use Rattle.spec_runs.specs.Run.{run}
use Rattle.gl_graph.specs.Graph.{Kept, state_of}
use Rattle.gl_world.specs.declared.section.Taken.{Taken}
use Rattle.gl_world.specs.Back.{CanGoBack}
use Rattle.gl_world.specs.Section.{AreDeltas}

-- by the definitions
abbrev pub outcome_of : Plan → List Actor → Actor → Outcome
outcome_of p order a = outcome p.limit (run p order).state (next_deed p order a)

-- the graph is in the state that it leads to, and this was taken: its replies, its deltas, and a way back
pub record IsEntry (p : Plan) (order : List Actor) (a : Actor) (graph : Kept) (taken : Taken) : Type
    0 where
  pub whole : IsWhole p
  pub state : state_of graph ≡ (outcome_of p order a).state
  pub replies : taken.replies ≡ (outcome_of p order a).replies
  pub deltas : AreDeltas (table_of (run p order).state) (outcome_of p order a).deltas taken.deltas
  pub back : CanGoBack taken.undos.items graph
