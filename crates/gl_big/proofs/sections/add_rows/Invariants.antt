use Rattle.std.proofs.Common.{◌≡◌, ◌++◌, map}
use Rattle.std.specs.List.{range_with_len}
use Rattle.gl_big.specs.Lines.{row_line}
use Rattle.gl_big.proofs.sections.add_rows.Given as goal

-- the lines so far
abbrev pub invariant-loop-k : goal.invariant-loop-k
invariant-loop-k l = l.lines ≡ l.initial.lines ++ map (row_line l.source) (range_with_len 0 l.k)
