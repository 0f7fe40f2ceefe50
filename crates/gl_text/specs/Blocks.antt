-- The block that stands before bytes.
use Rattle.std.specs.Prelude.{◌≡◌, ◌≤◌, ◌+◌, ℕ, List, [], ◌++◌, length, IsUtf8, ⊤}
use Rattle.gl_value.specs.Tree.{Tree}
use Rattle.spec_plan_texts.specs.Cuts.{lines_in}
use Rattle.spec_plan_texts.specs.Block.{BlockHas}
use Rattle.spec_plan_texts.specs.Reading.{Outcome, stopped, outside, inside, Comes, rows_of, fault}
use Rattle.gl_lines.specs.declared.named.Named.{Named}
use Rattle.gl_lines.specs.declared.line.NumberedLine.{NumberedLine}
use Rattle.gl_lines.specs.declared.fault.PlanKind.TheVariants.{Block}
use Rattle.gl_text.specs.declared.reading.Reading.{Reading}
use Rattle.gl_text.specs.declared.stop.Stop.{Stop}
use Rattle.gl_text.specs.declared.stop.Stop.TheVariants.{Fault, Memory}
use Rattle.gl_text.specs.Goes.{IsReading}

-- no line among the bytes ends a block
abbrev pub IsEndless : List ℕ → Type 0
IsEndless bytes =
    (before : List NumberedLine) (m n : ℕ) (named : Named)
    → Comes (inside m named []) before n (lines_in bytes) (fault m 1 Block)

-- a block in front, and the bytes after the line that ends it, so many lines further
pub record IsBlock (bytes block after : List ℕ) (lines : ℕ) : Type 0 where
  pub leads : (before : List NumberedLine) (m n : ℕ) (named : Named) (rows : List Tree)
      (out : Outcome) → BlockHas block rows
      → Comes outside (before ++ rows_of m named rows) (n + lines) (lines_in after) out
      → Comes (inside m named []) before n (lines_in bytes) out
  pub utf8 : IsUtf8 bytes → IsUtf8 block × IsUtf8 after
  pub few : lines + length after ≤ length bytes

-- these bytes of a block were passed, and so many lines, none of which ends it
pub record IsPassed (bytes passed rest : List ℕ) (lines : ℕ) : Type 0 where
  pub are : bytes ≡ passed ++ rest
  pub leads : (before : List NumberedLine) (m n : ℕ) (named : Named) (out : Outcome)
      → Comes (inside m named passed) before (n + lines) (lines_in rest) out
      → Comes (inside m named []) before n (lines_in bytes) out
  pub utf8 : IsUtf8 bytes → IsUtf8 passed × IsUtf8 rest
  pub few : lines + length rest ≤ length bytes

-- the rest of the bytes stands after so many lines, none of which ends the block
abbrev pub IsAfter : List ℕ → List ℕ → ℕ → Type 0
IsAfter bytes rest lines = (passed : List ℕ) × IsPassed bytes passed rest lines

-- the block in front was read
pub record BlockGoesOn (a : Reading) (m : ℕ) (named : Named) (others : List ℕ) (b : Reading)
    (rest : List ℕ) : Type 0 where
  pub is : IsReading b
  pub leads : (out : Outcome) → Comes outside b.lines b.number (lines_in rest) out
      → Comes (inside m named []) a.lines a.number (lines_in others) out
  pub utf8 : IsUtf8 rest
  pub shorter : length rest ≤ length others
  pub few : b.number + length rest ≤ a.number + length others

abbrev pub BlockStops : Reading → ℕ → Named → List ℕ → Stop → Type 0
BlockStops a m named others (Fault f) =
    Comes (inside m named []) a.lines a.number (lines_in others) (stopped f)
BlockStops a m named others Memory = ⊤
