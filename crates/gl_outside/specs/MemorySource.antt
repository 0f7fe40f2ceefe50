-- A source in memory, as its callers see it.
use Rattle.std.specs.Prelude.{◌≡◌, ◌<◌, ℕ, List, length, drop, min, ⊤}
use Rattle.gl_outside.specs.declared.source.Taken.{Taken}
use Rattle.gl_outside.specs.declared.source.Taken.TheVariants.{Some, End, Failed}
use Rattle.gl_outside.specs.Faults.{one_more}

pub record SourceState : Type 0 where
  -- the bytes that it still has
  pub left : List ℕ
  -- the most bytes that it gives in a call
  pub step : ℕ
  -- the numbers of the calls that fail
  pub failing : List ℕ
  -- how many calls there were
  pub calls : ℕ
  -- how many of them failed
  pub faults : ℕ

-- how many bytes a call gives that does not fail: as many as it can
abbrev pub next_count : SourceState → ℕ → ℕ
next_count s room = min s.step (min room (length s.left))

-- the source after this answer
abbrev pub after_take : SourceState → Taken → SourceState
after_take s (Some n) = record s { left = drop n s.left; calls = one_more s.calls }
after_take s End = record s { calls = one_more s.calls }
after_take s Failed = record s { calls = one_more s.calls; faults = one_more s.faults }

-- an answer with bytes has some, and as many as the call can give
abbrev pub GivesMost : SourceState → ℕ → Taken → Type 0
GivesMost s room (Some n) = (0 < n) × (n ≡ next_count s room)
GivesMost s room End = ⊤
GivesMost s room Failed = ⊤
