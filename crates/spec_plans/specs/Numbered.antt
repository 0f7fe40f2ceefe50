-- Lines by their numbers in a text.
use Rattle.std.specs.Prelude.{ℕ, suc, List, [], ◌∷◌}
use Rattle.gl_lines.specs.declared.line.Line.{Line}
use Rattle.gl_lines.specs.declared.line.NumberedLine.{NumberedLine}

-- lines, numbered from a number on
abbrev pub numbered : ℕ → List Line → List NumberedLine
numbered n [] = []
numbered n (l ∷ ls) = record { line = n; what = l } ∷ numbered (suc n) ls
