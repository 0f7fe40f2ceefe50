-- What a command does: it is answered without a change, refused, or makes a wave.
use Rattle.std.specs.Prelude.{ℕ, List, [], ◌∷◌, length, nat_lt, nat_le, if◌then◌else◌, Option, Some, None}
use Rattle.std.specs.Option.{option_or}
use Rattle.spec_lists.specs.Delta.{Delta}
use Rattle.gl_lines.specs.declared.plan.Command.{Command}
use Rattle.gl_lines.specs.declared.plan.Command.TheVariants as c
use Rattle.gl_lines.specs.declared.reply.Reply.{Reply}
use Rattle.gl_lines.specs.declared.reply.Reply.TheVariants.{Done, Shown, OutOfRange, TooLong, AlreadyFrozen, NotFrozen, NotOpen}
use Rattle.spec_plans.specs.Plan.{origin as about}
use Rattle.spec_states.specs.State.{Own, State, source, over, composite, transaction, freezable, proxy, own_at, dependency_order}
use Rattle.spec_states.specs.Shown.{Table, shows_in, table_of, shown}
use Rattle.spec_states.specs.Wave.{Cause, command, Deltas, wave, unchanged, wave_deltas}

-- how many elements a source has of its own; every other list has none
abbrev pub contents_len : Own → ℕ
contents_len (source contents) = length contents
contents_len other = 0

-- how many members a composite has; every other list has none
abbrev pub members_count : Own → ℕ
members_count (composite needed members) = length members
members_count other = 0

-- nothing where the index is below the length, else the refusal that says both
abbrev pub out_of_range : ℕ → ℕ → Option Reply
out_of_range index len = if nat_lt index len then None else Some (OutOfRange index len)

-- the same where the index may be the length too
abbrev pub past_end : ℕ → ℕ → Option Reply
past_end index len = if nat_le index len then None else Some (OutOfRange index len)

-- a commit or rollback needs an open level
abbrev pub unless_open : Own → Option Reply
unless_open (transaction input (level ∷ levels)) = None
unless_open other = Some NotOpen

-- a list that is frozen isn't frozen again, and one that is free isn't thawed
abbrev pub if_frozen : Own → Option Reply
if_frozen (freezable input (Some since)) = Some AlreadyFrozen
if_frozen other = None

abbrev pub unless_frozen : Own → Option Reply
unless_frozen (freezable input (Some since)) = None
unless_frozen other = Some NotFrozen

-- the refusal of what the list keeps that a command is about, if it refuses the command
abbrev pub refused_by : Own → Command → Option Reply
refused_by own (c.Insert list index value) = past_end index (contents_len own)
refused_by own (c.Set list index value) = out_of_range index (contents_len own)
refused_by own (c.Remove list index) = out_of_range index (contents_len own)
refused_by own (c.Detach list index) = out_of_range index (members_count own)
refused_by own (c.Commit list) = unless_open own
refused_by own (c.Rollback list) = unless_open own
refused_by own (c.Freeze list) = if_frozen own
refused_by own (c.Thaw list) = unless_frozen own
refused_by own other = None

-- the refusal of the state
abbrev pub refusal : State → Command → Option Reply
refusal s c = refused_by (own_at s (about c)) c

-- the first of these lists that shows more elements than the limit, with that length
abbrev pub first_longer : ℕ → Table → List ℕ → Option Reply
first_longer limit t [] = None
first_longer limit t (list ∷ lists) =
    if nat_le (length (shows_in t list)) limit then first_longer limit t lists
    else Some (TooLong list (length (shows_in t list)))

-- the first list in dependency order that shows too many elements, if any does
abbrev pub too_long : ℕ → State → Option Reply
too_long limit s = first_longer limit (table_of s) (dependency_order s)

-- the reply of a command that changes nothing: what a list shows, or a refusal
abbrev pub unmoved : ℕ → State → Command → Option Reply
unmoved limit s (c.Show list) = Some (Shown (shown s list))
unmoved limit s other = option_or (refusal s other) (too_long limit (wave s (command other)))

-- a command's reply, the state after it, and the delta of every list
pub record Step : Type 0 where
  pub state : State
  pub reply : Reply
  pub deltas : Deltas

abbrev pub step_by : Option Reply → State → Command → Step
step_by (Some reply) s c = record { state = s; reply = reply; deltas = unchanged (table_of s) }
step_by None s c =
    record { state = wave s (command c); reply = Done; deltas = wave_deltas s (command c) }

-- one command, where lists have at most so many elements: the first case that fits
abbrev pub step : ℕ → State → Command → Step
step limit s c = step_by (unmoved limit s c) s c
