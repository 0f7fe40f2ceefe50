-- What a world keeps of its plan and order: all that their run gives.
use Rattle.std.specs.Prelude.{◌≡◌, ◌<◌, ℕ, List, length, slice_index, None}
use Rattle.gl_plan.specs.Whole.{IsWhole}
use Rattle.gl_outside.specs.declared.gate.Actor.{Actor}
use Rattle.spec_states.specs.Reply.{Reply}
use Rattle.spec_states.specs.Plan.{Plan}
use Rattle.spec_states.specs.Opening.{opening}
use Rattle.spec_states.specs.Step.{too_long}
use Rattle.spec_runs.specs.Entry.{taken_by}
use Rattle.spec_runs.specs.Run.{run}
use Rattle.spec_runs.specs.Fits.{Fits}
use Rattle.gl_graph.specs.Graph.{Kept, state_of}
use Rattle.gl_tell.specs.Teller.{TellerModel}

pub record IsWorld (p : Plan) (order : List Actor) (graph : Kept) (replies : List (List Reply))
    (teller : TellerModel)
    (taken : List ℕ) : Type 0 where
  pub whole : IsWhole p
  pub opens : too_long p.limit (opening p) ≡ None
  pub fits : Fits p order
  pub state : state_of graph ≡ (run p order).state
  pub limit : graph.limit ≡ p.limit
  pub answers : replies ≡ (run p order).replies
  pub listeners : teller.plan ≡ p
  pub tellings : teller.told ≡ (run p order).told
  pub writers : length taken ≡ length p.writers
  pub sections : (w : ℕ) → w < length p.writers → slice_index taken w ≡ taken_by w order
