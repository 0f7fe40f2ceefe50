-- What a fault says of the bytes that were not read.
use Rattle.std.specs.Prelude.{ℕ, List, ⊤}
use Rattle.spec_syntax.specs.Grammar.{Grammar}
use Rattle.spec_syntax.specs.Language.{Leaves}
use Rattle.gl_syntax.specs.declared.stop.ReadFault.{ReadFault}
use Rattle.gl_syntax.specs.declared.stop.ReadFault.TheVariants.{Form, Memory}

-- the bytes spell nothing of the grammar and leave it in that column, or memory ran out
abbrev pub IsFault : {A : Type 0} → Grammar A → List ℕ → ReadFault → Type 0
IsFault L bytes (Form column) = Leaves L bytes column
IsFault L bytes Memory = ⊤
