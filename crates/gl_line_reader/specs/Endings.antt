-- What stands after the list of a listener, as the code has it.
use Rattle.std.specs.Prelude.{ℕ, Bool, List, [], ◌∷◌, codes}
use Rattle.spec_lines.specs.Line as grammar
use Rattle.spec_lines.specs.Line.{in_row}
use Rattle.gl_lines.specs.declared.named.Named.{Named}
use Rattle.gl_line_reader.specs.declared.listener.Ending.{Ending}
use Rattle.gl_line_reader.specs.declared.listener.Ending.TheVariants.{After, Echo}

abbrev pub ending_of : Ending → grammar.Ending
ending_of After = grammar.after_names
ending_of Echo = grammar.only_echo

abbrev pub endings : List (List ℕ × Ending)
endings = (codes " after ", After) ∷ (codes " echo", Echo) ∷ []

-- the names in their columns, the first one in this
abbrev pub told : ℕ → List (List ℕ) × Bool → List Named × Bool
told column ends = (in_row column ends.0, ends.1)
