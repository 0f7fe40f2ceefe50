-- What the code of a reader answers.
use Rattle.std.specs.Prelude.{◌≡◌, ℕ, List, Result, MatchResult, ⊤}
use Rattle.std.proofs.Common.{Bor}
use Rattle.spec_syntax.specs.Reader.{Step, found, stopped}
use Rattle.gl_syntax.specs.declared.stop.Stop.{Stop}
use Rattle.gl_syntax.specs.declared.stop.Stop.TheVariants.{Form, Memory}

-- the reading of the bytes stops with so many left, or memory ran out
abbrev pub IsStop : {A : Type 0} → Step A → Stop → Type 0
IsStop step (Form left) = step ≡ stopped left
IsStop step Memory = ⊤

-- the answer is what the reading of the bytes comes to: the thing and the bytes after it, or where it stops
abbrev pub Reads : {A : Type 0} → Result (A × Bor (List ℕ)) Stop → Step A → Type 0
Reads result step = MatchResult result (λ x. step ≡ found x.0 x.1.now) (IsStop step)
