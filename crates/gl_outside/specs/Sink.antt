-- What a call of a sink does to the bytes that it has.
use Rattle.std.specs.Prelude.{◌≡◌, ℕ, Option, List, ◌++◌}
use Rattle.std.specs.Io.KnownBytes.{Appends}
use Rattle.gl_outside.specs.declared.sink.Given.{Given}
use Rattle.gl_outside.specs.declared.sink.Given.TheVariants.{All, Failed}
use Rattle.gl_outside.specs.Faults.{one_more}

-- known bytes grow by a prefix of the piece
pub record AppendsPrefix (old new : Option (List ℕ)) (piece : List ℕ) : Type 0 where
  pub prefix : List ℕ
  pub back : List ℕ
  pub whole : piece ≡ prefix ++ back
  pub appended : Appends old new prefix

-- the count of faults of a sink that counts the calls that failed
abbrev pub faults_after_give : ℕ → Given → ℕ
faults_after_give faults All = faults
faults_after_give faults Failed = one_more faults
