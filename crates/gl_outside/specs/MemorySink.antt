-- A sink in memory, as its callers see it.
use Rattle.std.specs.Prelude.{ℕ, ◌-◌, List, ◌++◌, length, take}
use Rattle.gl_outside.specs.declared.sink.Given.{Given}
use Rattle.gl_outside.specs.declared.sink.Given.TheVariants.{All, Failed}
use Rattle.gl_outside.specs.Faults.{one_more}

pub record SinkState : Type 0 where
  -- the bytes that it took
  pub bytes : List ℕ
  -- how many it takes in all
  pub room : ℕ
  -- how often a piece passed that
  pub faults : ℕ

-- the sink after it was given a piece: what fits was taken
abbrev pub after_give : SinkState → List ℕ → Given → SinkState
after_give s piece All = record s { bytes = s.bytes ++ piece }
after_give s piece Failed =
    record s { bytes = s.bytes ++ take (s.room - length s.bytes) piece; faults = one_more s.faults }
