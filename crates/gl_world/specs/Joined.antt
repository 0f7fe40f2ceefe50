-- Deltas by list, composed with those that come after them.
use Rattle.std.specs.Prelude.{◌≡◌, ◌≢◌, ◌<◌, ℕ, List, length, slice_index_or, Option, Some, None}
use Rattle.spec_states.specs.Piece.{old_len, new_len}
use Rattle.spec_states.specs.Delta.{composed}
use Rattle.gl_delta.specs.Model.{DeltaModel}

-- where both are there, the second leads on from the first
abbrev pub Meet : Option DeltaModel → Option DeltaModel → Type 0
Meet None next = Unit {0}
Meet (Some d) None = Unit {0}
Meet (Some d) (Some e) = old_len e.pieces ≡ new_len d.pieces

-- this is the first, and then the second
abbrev pub IsComposed : DeltaModel → DeltaModel → Option DeltaModel → Type 0
IsComposed d e None = ⊥
IsComposed d e (Some m) = m.pieces ≡ composed d.pieces e.pieces

-- the same where either may be missing
abbrev pub IsJoined : Option DeltaModel → Option DeltaModel → Option DeltaModel → Type 0
IsJoined sofar None now = now ≡ sofar
IsJoined None (Some e) now = now ≡ Some e
IsJoined (Some d) (Some e) now = IsComposed d e now

-- under a number it is joined with this, and the others stay
pub record IsPutAt (list : ℕ) (next : Option DeltaModel) (old new : List (Option DeltaModel)) : Type
    0 where
  pub long : length new ≡ length old
  pub here : IsJoined (slice_index_or old list None) next (slice_index_or new list None)
  pub others : (k : ℕ) → k ≢ list → slice_index_or new k None ≡ slice_index_or old k None

-- under a number the second has gone into the first
pub record IsJoinedAt (list : ℕ) (old next new left : List (Option DeltaModel)) : Type 0 where
  pub put : IsPutAt list (slice_index_or next list None) old new
  pub long : length left ≡ length next
  pub rest : (k : ℕ) → k ≢ list → slice_index_or left k None ≡ slice_index_or next k None

-- under all numbers
pub record AreJoined (old next new : List (Option DeltaModel)) : Type 0 where
  pub long : length new ≡ length old
  pub each : (list : ℕ) → list < length old
      → IsJoined (slice_index_or old list None) (slice_index_or next list None)
      (slice_index_or new list None)

-- under each number the second leads on from the first
abbrev pub AreMeeting : List (Option DeltaModel) → List (Option DeltaModel) → Type 0
AreMeeting old next = (list : ℕ) → list < length old → Meet (slice_index_or old list None)
    (slice_index_or next list None)
