-- What an actor does while it has the lock: a writer takes its next section, a proxy takes the first delta that it is yet to
-- take. Then each proxy whose input has changed queues that input's delta.
use Rattle.std.specs.Prelude.{◌==◌, ◌++◌, ℕ, suc, List, [], ◌∷◌, length, map, Bool, true, false, if◌then◌else◌, Option, Some, None, slice_get}
use Rattle.spec_lists.specs.Delta.{Delta, is_identity}
use Rattle.gl_outside.specs.declared.gate.Actor.{Actor}
use Rattle.gl_outside.specs.declared.gate.Actor.TheVariants.{Writer, Proxy}
use Rattle.gl_lines.specs.declared.plan.Command.{Command}
use Rattle.gl_lines.specs.declared.reply.Reply.{Reply}
use Rattle.spec_plans.specs.Plan.{Plan, commands_of, proxies_of}
use Rattle.spec_states.specs.State.{Own, State, proxy}
use Rattle.spec_states.specs.Shown.{table_of}
use Rattle.spec_states.specs.Wave.{Deltas, delta_in, pump, wave, unchanged, wave_deltas}
use Rattle.spec_runs.specs.Section.{state_after, replies_to, section_deltas}

-- what an actor does: the commands of a section, the pump of a proxy, by its number among the lists, or nothing
pub data Deed : Type 0 where
  section : List Command → Deed
  pumping : ℕ → Deed
  nothing : Deed

-- whether an actor is this writer
abbrev pub is_writer : ℕ → Actor → Bool
is_writer writer (Writer w) = w == writer
is_writer writer (Proxy p) = false

-- how many sections of a writer an order takes
abbrev pub taken_by : ℕ → List Actor → ℕ
taken_by writer [] = 0
taken_by writer (a ∷ order) =
    if is_writer writer a then suc (taken_by writer order) else taken_by writer order

abbrev pub pumping_of : Option ℕ → Deed
pumping_of None = nothing
pumping_of (Some list) = pumping list

-- what an actor does next after an order: a writer its first section that isn't taken
abbrev pub next_deed : Plan → List Actor → Actor → Deed
next_deed p order (Writer w) = section (commands_of p w (taken_by w order))
next_deed p order (Proxy n) = pumping_of (slice_get (proxies_of p) n)

-- what comes of it: the state, the replies, and one delta for each list
pub record Outcome : Type 0 where
  pub state : State
  pub replies : List Reply
  pub deltas : Deltas

abbrev pub outcome : ℕ → State → Deed → Outcome
outcome limit s (section commands) = record {
  state = state_after limit s commands;
  replies = replies_to limit s commands;
  deltas = section_deltas limit s commands;
}
outcome limit s (pumping list) =
    record { state = wave s (pump list); replies = []; deltas = wave_deltas s (pump list) }
outcome limit s nothing = record { state = s; replies = []; deltas = unchanged (table_of s) }

-- a delta at the end of a queue, unless it is the identity
abbrev pub with_queued : Delta → List Delta → List Delta
with_queued d queue = if is_identity d then queue else queue ++ d ∷ []

-- what a list keeps at the end of an entry, by the deltas of all lists in it
abbrev pub queued_own : (ℕ → Delta) → Own → Own
queued_own delta (proxy input kept queue) = proxy input kept (with_queued (delta input) queue)
queued_own delta other = other

-- each proxy has queued the delta of its input
abbrev pub queued : Deltas → State → State
queued deltas s = map (queued_own (delta_in deltas)) s
