-- What a call of a source answers.
use Rattle.std.specs.Prelude.{◌≡◌, ◌≤◌, ◌↔◌, ℕ, List, [], length, take, ⊤}
use Rattle.gl_outside.specs.declared.source.Taken.{Taken}
use Rattle.gl_outside.specs.declared.source.Taken.TheVariants.{Some, End, Failed}
use Rattle.gl_outside.specs.Faults.{one_more}

-- the bytes that were taken stand at the beginning of the room
abbrev pub taken_bytes : Taken → List ℕ → List ℕ
taken_bytes (Some n) room = take n room
taken_bytes End room = []
taken_bytes Failed room = []

-- no more bytes were taken than the room holds
abbrev pub FitsRoom : Taken → List ℕ → Type 0
FitsRoom (Some n) room = n ≤ length room
FitsRoom End room = ⊤
FitsRoom Failed room = ⊤

-- the answer says that no byte is left: `Some(0)` says it too
abbrev pub IsEnd : Taken → Type 0
IsEnd (Some n) = n ≡ 0
IsEnd End = ⊤
IsEnd Failed = ⊥

-- a call that did not fail says that no byte is left exactly where none is
abbrev pub EndsExactly : Taken → List ℕ → Type 0
EndsExactly (Some n) left = IsEnd (Some n) ↔ (left ≡ [])
EndsExactly End left = IsEnd End ↔ (left ≡ [])
EndsExactly Failed left = ⊤

-- the count of faults of a source that counts the calls that failed
abbrev pub faults_after_take : ℕ → Taken → ℕ
faults_after_take faults (Some n) = faults
faults_after_take faults End = faults
faults_after_take faults Failed = one_more faults
