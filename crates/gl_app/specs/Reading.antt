-- What reading a whole source answers.
use Rattle.std.specs.Prelude.{◌≡◌, ◌<◌, ◌≤◌, ℕ, Option, Some, IfSome, List, [], length, Result, Ok, Err}
use Rattle.std.specs.Io.KnownBytes.{Consumes}
use Rattle.gl_app.specs.declared.reading.ReadAllFault.{ReadAllFault}
use Rattle.gl_app.specs.declared.reading.ReadAllFault.TheVariants.{TooLarge, Failed, Memory}

-- where the source tells its bytes, these are all of them, and none is left
abbrev pub IsWhole : Option (List ℕ) → Option (List ℕ) → List ℕ → Type 0
IsWhole old new bytes = IfSome old (λ all. (bytes ≡ all) × (new ≡ Some []))

-- bytes were taken, so many that P
pub record Took (old new : Option (List ℕ)) (P : ℕ → Type 0) : Type 0 where
  pub taken : List ℕ
  pub consumed : Consumes old new taken
  pub count : P (length taken)

-- all the bytes, within the limit; too large exactly where more bytes than that were taken
abbrev pub ReadsWhole : Option (List ℕ) → Option (List ℕ) → ℕ → Result (List ℕ) ReadAllFault
    → Type 0
ReadsWhole old new limit (Ok bytes) = IsWhole old new bytes × (length bytes ≤ limit)
ReadsWhole old new limit (Err TooLarge) = Took old new (λ n. limit < n)
ReadsWhole old new limit (Err Failed) = Took old new (λ n. n ≤ limit)
ReadsWhole old new limit (Err Memory) = Took old new (λ n. n ≤ limit)
