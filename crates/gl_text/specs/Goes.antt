-- How the reading of a text goes on.
use Rattle.std.specs.Prelude.{◌≤◌, ◌+◌, ℕ, List, [], ◌∷◌, length, IsUtf8, ⊤}
use Rattle.spec_plan_texts.specs.Cuts.{lines_in}
use Rattle.spec_plan_texts.specs.Reading.{Outcome, stopped, outside, Comes, most_bytes, SpellsLine, LeavesLines}
use Rattle.gl_lines.specs.declared.line.Line.{Line}
use Rattle.gl_lines.specs.declared.line.NumberedLine.{NumberedLine}
use Rattle.gl_syntax.specs.declared.stop.ReadFault.{ReadFault}
use Rattle.gl_syntax.specs.declared.stop.ReadFault.TheVariants as read
use Rattle.gl_plan.specs.Before.{StandsAfter}
use Rattle.gl_text.specs.declared.reading.Reading.{Reading}
use Rattle.gl_text.specs.declared.stop.Stop.{Stop}
use Rattle.gl_text.specs.declared.stop.Stop.TheVariants.{Fault, Memory}

-- the reading stops for this, after these lines and ahead of those
abbrev pub StopsAfter : List NumberedLine → ℕ → List (List ℕ) → Stop → Type 0
StopsAfter before number raws (Fault f) = Comes outside before number raws (stopped f)
StopsAfter before number raws Memory = ⊤

-- the reading of the lines after the first one of a text stops for this
abbrev pub StopsFor : List (List ℕ) → Stop → Type 0
StopsFor raws stop = StopsAfter [] 2 raws stop

-- what is kept of the lines that were read is true of them
pub record IsReading (r : Reading) : Type 0 where
  pub stands : StandsAfter r.before r.lines
  pub lists : r.before.lists ≤ 256
  pub listeners : r.before.listeners ≤ 256
  pub writers : r.before.writers ≤ 64

-- from these lines on, where others are left, all comes to what the others come to
abbrev pub LeadsOn : Reading → List (List ℕ) → Reading → List (List ℕ) → Type 0
LeadsOn a raws b others =
    (out : Outcome) → Comes outside b.lines b.number others out
    → Comes outside a.lines a.number raws out

-- a line and what it opens were read
pub record GoesOn (a : Reading) (raw others : List ℕ) (b : Reading) (rest : List ℕ) : Type 0 where
  pub is : IsReading b
  pub leads : LeadsOn a (raw ∷ lines_in others) b (lines_in rest)
  pub utf8 : IsUtf8 rest
  pub shorter : length rest ≤ length others
  pub few : b.number + length rest ≤ a.number + 1 + length others

-- the bytes of a line spell it
pub record IsLineOf (raw : List ℕ) (l : Line) : Type 0 where
  pub fits : length raw ≤ most_bytes
  pub spells : SpellsLine raw l

-- the same, whatever the bytes of the line are
abbrev pub GoesOnWith : Reading → Line → List ℕ → Reading → List ℕ → Type 0
GoesOnWith a l others b rest = (raw : List ℕ) → IsLineOf raw l → GoesOn a raw others b rest

abbrev pub StopsWith : Reading → Line → List ℕ → Stop → Type 0
StopsWith a l others stop =
    (raw : List ℕ) → IsLineOf raw l → StopsAfter a.lines a.number (raw ∷ lines_in others) stop

-- the bytes spell no line and leave the language in that column, or memory ran out
abbrev pub IsLineFault : List ℕ → ReadFault → Type 0
IsLineFault raw (read.Form column) = LeavesLines raw column
IsLineFault raw read.Memory = ⊤
