-- What a rollback takes back.
use Rattle.std.specs.Prelude.{◌≡◌, ◌≢◌, ⊤, ℕ, [], Option, Some, None}
use Rattle.spec_states.specs.State.{Own, State, transaction, own_at}
use Rattle.spec_states.specs.Shown.{shown}
use Rattle.spec_states.specs.Wave.{Cause, subject, begins, begun_with}
use Rattle.gl_source.specs.Model.{DeltaModel}
use Rattle.gl_held.specs.Levels.{taken_back}
use Rattle.gl_graph.specs.declared.rollback.Rollback.{Rollback}
use Rattle.gl_graph.specs.declared.graph.Refused.{Refused}
use Rattle.gl_graph.specs.declared.graph.Refused.TheVariants.{NotOpen, Memory}
use Rattle.gl_graph.specs.Causes.{IsPlain, refusal_of}

-- it takes back the source of that number, where the wave begins, by the delta with which it begins
pub record TakesBack (s : State) (cause : Cause) (rollback : Rollback) : Type 0 where
  pub granted : refusal_of s cause ≡ None
  pub begins : begins cause (own_at s (subject cause)) ≡ Some rollback.source
  pub apart : rollback.source ≢ subject cause
  pub delta : rollback.delta.pieces ≡ begun_with cause (own_at s (subject cause)) (shown s)

-- what a cause takes back, if it is a rollback
abbrev pub IsRollback : State → Cause → Option Rollback → Type 0
IsRollback s cause None = IsPlain cause
IsRollback s cause (Some rollback) = TakesBack s cause rollback

-- by what a transaction list keeps
abbrev pub IsRollbackOf : Own → Rollback → Type 0
IsRollbackOf (transaction input levels) rollback =
    (rollback.source ≡ input) × ((levels ≢ []) × (rollback.delta.pieces ≡ taken_back levels))
IsRollbackOf other rollback = ⊥

-- why there is nothing that it takes back
abbrev pub IsRefusedOf : Own → Refused → Type 0
IsRefusedOf (transaction input levels) NotOpen = levels ≡ []
IsRefusedOf own Memory = ⊤
IsRefusedOf own other = ⊥

-- where a wave begins
abbrev pub start_at : Option Rollback → Cause → ℕ
start_at None cause = subject cause
start_at (Some rollback) cause = rollback.source

-- a list is the source that is taken back
abbrev pub IsSourceOf : ℕ → Option Rollback → Type 0
IsSourceOf list None = ⊥
IsSourceOf list (Some rollback) = list ≡ rollback.source

-- the delta that takes a list back, if it is that source
abbrev pub IsDeltaFor : ℕ → Option Rollback → Option DeltaModel → Type 0
IsDeltaFor list None None = ⊤
IsDeltaFor list None (Some d) = ⊥
IsDeltaFor list (Some rollback) None = list ≢ rollback.source
IsDeltaFor list (Some rollback) (Some d) = (list ≡ rollback.source) × (d ≡ rollback.delta)
