-- What a teller is to its callers, and what it keeps.
use Rattle.std.specs.Prelude.{ℕ, List, length, All}
use Rattle.spec_states.specs.Plan.{Plan}
use Rattle.gl_plan.specs.Whole.{IsWhole}
use Rattle.spec_runs.specs.Telling.{Telling as TellingData}
use Rattle.gl_tell.specs.declared.telling.Telling.{Telling}
use Rattle.gl_tell.specs.Told.{IsFresh}
use Rattle.gl_tell.specs.Listeners.{AreByList}

-- a plan, what was told to its listeners, and for how many tellings there is room
pub record TellerModel : Type 0 where
  pub plan : Plan
  pub told : List TellingData
  pub room : ℕ

-- the listeners of each list of a plan, and tellings of which nothing was given yet
pub record IsTeller (p : Plan) (by_list : List (List ℕ)) (told : List Telling) : Type 0 where
  pub whole : IsWhole p
  pub listeners : AreByList (length p.lists) p.listeners by_list
  pub fresh : All IsFresh told
