use Rattle.std.proofs.Common.{◌≡◌, ◌++◌, take}
use Rattle.spec_plan_texts.specs.Reading.{rows_of}
use Rattle.gl_text.specs.Goes.{IsReading}
use Rattle.gl_text.proofs.block.with_rows.Given as goal

-- the rows that were taken stand after the lines
abbrev pub invariant-loop-row : goal.invariant-loop-row
invariant-loop-row l = record {
  is : IsReading l.reading;
  lines : l.reading.lines ≡ l.initial.reading.lines ++ rows_of l.number l.named (take l.row-index l.rows);
  number : l.reading.number ≡ l.initial.reading.number;
}
