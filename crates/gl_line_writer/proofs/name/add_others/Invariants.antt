use Rattle.std.proofs.Common.{◌≡◌, ◌++◌, take}
use Rattle.std.specs.List.{flat_map}
use Rattle.gl_line_writer.specs.Pieces.{name_after_comma}
use Rattle.gl_line_writer.proofs.name.add_others.Given as goal

abbrev pub invariant-names : goal.invariant-names
invariant-names l = l.out ≡ l.initial.out ++ flat_map name_after_comma (take l.named-index l.names)
