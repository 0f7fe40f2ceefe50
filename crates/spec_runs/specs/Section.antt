-- What the commands of a section come to: the state after them, their replies, and one delta for each list. The limit
-- is the most elements that a list may have.
use Rattle.std.specs.Prelude.{ℕ, List, [], ◌∷◌}
use Rattle.gl_lines.specs.declared.plan.Command.{Command}
use Rattle.gl_lines.specs.declared.reply.Reply.{Reply}
use Rattle.spec_lists.specs.Delta.{composed}
use Rattle.spec_states.specs.State.{State}
use Rattle.spec_states.specs.Shown.{table_of}
use Rattle.spec_states.specs.Wave.{Deltas, unchanged}
use Rattle.spec_states.specs.Step.{step}

-- the state after the commands, taken in turn
abbrev pub state_after : ℕ → State → List Command → State
state_after limit s [] = s
state_after limit s (c ∷ cs) = state_after limit (step limit s c).state cs

-- their replies
abbrev pub replies_to : ℕ → State → List Command → List Reply
replies_to limit s [] = []
replies_to limit s (c ∷ cs) = (step limit s c).reply ∷ replies_to limit (step limit s c).state cs

-- of each list the one delta, then the other
abbrev pub composed_all : Deltas → Deltas → Deltas
composed_all [] later = []
composed_all (p ∷ ps) [] = []
composed_all (p ∷ ps) (q ∷ qs) = composed p q ∷ composed_all ps qs

-- these deltas, and then those of the commands, taken in turn
abbrev pub deltas_after : ℕ → State → Deltas → List Command → Deltas
deltas_after limit s sofar [] = sofar
deltas_after limit s sofar (c ∷ cs) =
    deltas_after limit (step limit s c).state (composed_all sofar (step limit s c).deltas) cs

-- the delta of every list in a section, from the identity
abbrev pub section_deltas : ℕ → State → List Command → Deltas
section_deltas limit s cs = deltas_after limit s (unchanged (table_of s)) cs
