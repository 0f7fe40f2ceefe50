use Rattle.std.proofs.Common.{◌≡◌, ◌++◌}
use Rattle.std.specs.Prelude.{flat_map}
use Rattle.std.specs.List.{range_with_len}
use Rattle.gl_big.specs.Lines.{section_lines}
use Rattle.gl_big.proofs.sections.add_sections.Given as goal

-- the lines so far
abbrev pub invariant-loop-j : goal.invariant-loop-j
invariant-loop-j l =
    l.lines ≡ l.initial.lines ++ flat_map (section_lines l.source l.count) (range_with_len 0 l.j)
