use Rattle.std.proofs.Common.{◌+◌, ◌≤◌, [], length}
use Rattle.std.specs.Str.{IsUtf8}
use Rattle.spec_plan_texts.specs.Cuts.{lines_in}
use Rattle.spec_plan_texts.specs.Reading.{Outcome, outside, Comes}
use Rattle.gl_text.specs.Goes.{IsReading}
use Rattle.gl_text.proofs.reading.read_lines.Given as goal

-- whatever the lines that are left come to, all lines come to
abbrev pub invariant-lines : goal.invariant-lines
invariant-lines l = record {
  is : IsReading l.reading;
  leads : (out : Outcome) → Comes outside l.reading.lines l.reading.number (lines_in l.rest) out → Comes outside [] 2 (lines_in l.bytes) out;
  utf8 : IsUtf8 l.rest;
  few : l.reading.number + length l.rest ≤ length l.bytes + 2;
}

abbrev pub decreases-lines : goal.decreases-lines
decreases-lines l = length l.rest
