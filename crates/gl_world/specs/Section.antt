-- What the commands of a section have come to.
use Rattle.std.specs.Prelude.{◌≡◌, ◌<◌, ℕ, List, length, slice_index_or, Option, Some, None}
use Rattle.spec_states.specs.Piece.{new_len}
use Rattle.spec_states.specs.Delta.{Delta, no_change}
use Rattle.spec_states.specs.Command.{Command}
use Rattle.gl_delta.specs.Model.{DeltaModel}
use Rattle.spec_states.specs.State.{State}
use Rattle.spec_states.specs.Shown.{Table, shows_in, table_of, shown}
use Rattle.spec_states.specs.Wave.{Deltas, delta_in}
use Rattle.spec_states.specs.Step.{step}
use Rattle.spec_states.specs.Laws.{Lead}
use Rattle.spec_runs.specs.Section.{composed_all}

-- the delta of a list of so many elements, or nothing where that is the identity
abbrev pub IsDeltaSofar : ℕ → Delta → Option DeltaModel → Type 0
IsDeltaSofar len delta None = delta ≡ no_change len
IsDeltaSofar len delta (Some d) = d.pieces ≡ delta

-- the delta of each list, where a table says what they showed before
pub record AreDeltas (start : Table) (deltas : Deltas) (told : List (Option DeltaModel)) : Type 0
  where
    pub long : length told ≡ length start
    pub each : (list : ℕ) → list < length start
        → IsDeltaSofar (length (shows_in start list)) (delta_in deltas list)
        (slice_index_or told list None)

-- each of them leads to what its list shows in a state
pub record Reach (told : List (Option DeltaModel)) (s : State) : Type 0 where
  pub long : length told ≡ length s
  pub each : (list : ℕ) (d : DeltaModel) → slice_index_or told list None ≡ Some d
      → new_len d.pieces ≡ length (shown s list)

-- whatever deltas they are, after a command they are those and then the command's
abbrev pub GoOn : ℕ → State → Command → List (Option DeltaModel) → List (Option DeltaModel) → Type 0
GoOn limit s command old new = (start : Table) (deltas : Deltas) → Lead deltas start (table_of s)
    → AreDeltas start deltas old
    → AreDeltas start (composed_all deltas (step limit s command).deltas) new
