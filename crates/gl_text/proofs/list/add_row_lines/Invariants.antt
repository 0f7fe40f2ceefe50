use Rattle.std.proofs.Common.{◌≡◌, ◌++◌, take}
use Rattle.std.specs.List.{flat_map}
use Rattle.gl_text.specs.Texts.{row_text}
use Rattle.gl_text.proofs.list.add_row_lines.Given as goal

abbrev pub invariant-rows : goal.invariant-rows
invariant-rows l = l.out ≡ l.initial.out ++ flat_map (row_text l.name) (take l.row-index l.rows)
