use Rattle.std.proofs.Common.{take}
use Rattle.csv.specs.Records.{fields_of}
use Rattle.spec_plan_texts.specs.Block.{AreFields}
use Rattle.gl_text.proofs.records.row.Given as goal

abbrev pub invariant-loop-i : goal.invariant-loop-i
invariant-loop-i l = AreFields (take l.i (fields_of l.entry)) l.values
