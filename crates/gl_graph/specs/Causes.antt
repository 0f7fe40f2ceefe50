-- What makes a wave in a graph: a command for a list that it suits, or the pump of a proxy.
use Rattle.std.specs.Prelude.{⊤, ℕ, ◌∷◌, Option, Some, None}
use Rattle.std.specs.Option.{option_or}
use Rattle.spec_states.specs.Reply.{Reply}
use Rattle.spec_states.specs.State.{Own, State, proxy, own_at}
use Rattle.spec_states.specs.Wave.{Cause, command, pump, subject, beginning, wave}
use Rattle.spec_states.specs.Step.{refused_by, too_long}
use Rattle.gl_graph.specs.declared.cause.Cause.{Cause as GraphCause}
use Rattle.gl_graph.specs.declared.cause.Cause.TheVariants.{Command, Pump}
use Rattle.gl_graph.specs.Commands.{Suits, IsNoRollback}

-- as the state has it
abbrev pub cause_of : GraphCause → Cause
cause_of (Command c) = command c.now
cause_of (Pump list) = pump list

-- a list that keeps this has something to take
abbrev pub CanPump : Own → Type 0
CanPump (proxy input kept (d ∷ queue)) = ⊤
CanPump other = ⊥

-- it is one for a list that keeps this
abbrev pub SuitsCause : Cause → Own → Type 0
SuitsCause (command c) own = Suits c own
SuitsCause (pump list) own = CanPump own

-- it is no rollback
abbrev pub IsPlain : Cause → Type 0
IsPlain (command c) = IsNoRollback c
IsPlain (pump list) = ⊤

-- the refusal of what the list keeps that it is about: a pump is never refused
abbrev pub refused_of : Own → Cause → Option Reply
refused_of own (command c) = refused_by own c
refused_of own (pump list) = None

-- the refusal of the state
abbrev pub refusal_of : State → Cause → Option Reply
refusal_of s cause = refused_of (own_at s (subject cause)) cause

-- where it begins a wave that is about the list of this number, by what that list keeps
abbrev pub begin_at : Cause → ℕ → Own → Option ℕ
begin_at (command c) number own = beginning c number own
begin_at (pump list) number own = Some number

-- why it makes no wave, if it makes none, where lists have at most so many elements
abbrev pub unmoved_of : ℕ → State → Cause → Option Reply
unmoved_of limit s cause = option_or (refusal_of s cause) (too_long limit (wave s cause))
