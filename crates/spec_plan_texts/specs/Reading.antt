-- How the lines of a plan's text are read, one after another, up to the first that can't be.
use Rattle.std.specs.Prelude.{◌≡◌, ◌⊎◌, ◌<◌, ◌≤◌, ◌+◌, ℕ, suc, List, [], ◌∷◌, ◌++◌, map, length, codes, Option, Some, None}
use Rattle.spec_plans.specs.Tree.{Tree}
use Rattle.spec_syntax.specs.Language.{Spell, Leaves}
use Rattle.spec_lines.specs.Line.{line_of_text}
use Rattle.spec_syntax.specs.Block.{BlockHas}
use Rattle.gl_lines.specs.declared.named.Named.{Named}
use Rattle.gl_lines.specs.declared.line.Line.{Line}
use Rattle.gl_lines.specs.declared.line.Line.TheVariants.{Row, Csv}
use Rattle.gl_lines.specs.declared.line.NumberedLine.{NumberedLine}
use Rattle.gl_lines.specs.declared.fault.PlanKind.{PlanKind}
use Rattle.gl_lines.specs.declared.fault.PlanKind.TheVariants.{LongLine, Form, Block}
use Rattle.spec_plans.specs.declared.fault.FaultAt.{FaultAt}
use Rattle.spec_plans.specs.Place.{place_fault}

-- what the reading of lines comes to: they were all read, or one has a fault
pub data Outcome : Type 0 where
  all_read : List NumberedLine → Outcome
  stopped : FaultAt → Outcome

-- where the reading stands: between lines, or in the block of a `csv` line, by that line's number and name and by the
-- bytes of the block so far
pub data Mode : Type 0 where
  outside : Mode
  inside : ℕ → Named → List ℕ → Mode

-- a line of a text has at most so many bytes, outside of blocks
abbrev pub most_bytes : ℕ
most_bytes = 1048576

-- the bytes spell the line, and no other
unfoldable pub SpellsLine : List ℕ → Line → Type 0
SpellsLine raw l = Spell line_of_text raw l

-- the bytes spell no line, and leave the lines of the language in that column
unfoldable pub LeavesLines : List ℕ → ℕ → Type 0
LeavesLines raw column = Leaves line_of_text raw column

-- a line that is empty or a comment says nothing
abbrev pub IsSkipped : List ℕ → Type 0
IsSkipped raw = (raw ≡ []) ⊎ ((comment : List ℕ) × (raw ≡ codes "#" ++ comment))

abbrev pub numbered : ℕ → Line → NumberedLine
numbered number l = record { line = number; what = l }

abbrev pub fault : ℕ → ℕ → PlanKind → Outcome
fault number column kind = stopped (record { line = number; column = column; kind = kind })

-- the name of a source for which a line opens a block
abbrev pub opened_by : Line → Option Named
opened_by (Csv named) = Some named
opened_by other = None

-- the elements of a block as `row` lines, with the number and the name of its `csv` line
abbrev pub rows_of : ℕ → Named → List Tree → List NumberedLine
rows_of number named rows = map (λ row. numbered number (Row named row)) rows

-- What the lines of a text come to, from a number on, after the lines that were read: each line is judged before the next,
-- and of what may be wrong with it the length comes first, then the form, then the place.
pub data Comes : Mode → List NumberedLine → ℕ → List (List ℕ) → Outcome → Type 0 where
  at_end : {before : List NumberedLine} {n : ℕ} → Comes outside before n [] (all_read before)
  long : {before : List NumberedLine} {n : ℕ} {raw : List ℕ} {raws : List (List ℕ)}
      → most_bytes < length raw
      → Comes outside before n (raw ∷ raws) (fault n (most_bytes + 1) LongLine)
  skipped : {before : List NumberedLine} {n : ℕ} {raw : List ℕ} {raws : List (List ℕ)}
      {out : Outcome}
      → length raw ≤ most_bytes
      → IsSkipped raw
      → Comes outside before (suc n) raws out
      → Comes outside before n (raw ∷ raws) out
  formless : {before : List NumberedLine} {n : ℕ} {raw : List ℕ} {raws : List (List ℕ)} (column : ℕ)
      → length raw ≤ most_bytes
      → ¬ IsSkipped raw
      → LeavesLines raw column
      → Comes outside before n (raw ∷ raws) (fault n column Form)
  misplaced : {before : List NumberedLine} {n : ℕ} {raw : List ℕ} {raws : List (List ℕ)} (l : Line)
      {kind : PlanKind}
      → length raw ≤ most_bytes
      → SpellsLine raw l
      → place_fault before l ≡ Some kind
      → Comes outside before n (raw ∷ raws) (fault n 1 kind)
  plain : {before : List NumberedLine} {n : ℕ} {raw : List ℕ} {raws : List (List ℕ)} (l : Line)
      {out : Outcome}
      → length raw ≤ most_bytes
      → SpellsLine raw l
      → place_fault before l ≡ None
      → opened_by l ≡ None
      → Comes outside (before ++ numbered n l ∷ []) (suc n) raws out
      → Comes outside before n (raw ∷ raws) out
  opening : {before : List NumberedLine} {n : ℕ} {raw : List ℕ} {raws : List (List ℕ)} (l : Line)
      {named : Named} {out : Outcome}
      → length raw ≤ most_bytes
      → SpellsLine raw l
      → place_fault before l ≡ None
      → opened_by l ≡ Some named
      → Comes (inside n named []) (before ++ numbered n l ∷ []) (suc n) raws out
      → Comes outside before n (raw ∷ raws) out
  in_block : {before : List NumberedLine} {n m : ℕ} {named : Named} {block raw : List ℕ}
      {raws : List (List ℕ)} {out : Outcome}
      → ¬ (raw ≡ codes "end csv")
      → Comes (inside m named (block ++ raw ++ 10 ∷ [])) before (suc n) raws out
      → Comes (inside m named block) before n (raw ∷ raws) out
  closing : {before : List NumberedLine} {n m : ℕ} {named : Named} {block : List ℕ}
      {rows : List Tree} {raws : List (List ℕ)} {out : Outcome}
      → BlockHas block rows
      → Comes outside (before ++ rows_of m named rows) (suc n) raws out
      → Comes (inside m named block) before n (codes "end csv" ∷ raws) out
  endless : {before : List NumberedLine} {n m : ℕ} {named : Named} {block : List ℕ}
      → Comes (inside m named block) before n [] (fault m 1 Block)
