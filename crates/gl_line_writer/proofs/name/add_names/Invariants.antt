use Rattle.std.proofs.Common.{◌≡◌, ◌++◌, take}
use Rattle.std.specs.List.{flat_map}
use Rattle.gl_line_writer.specs.Pieces.{spaced_name}
use Rattle.gl_line_writer.proofs.name.add_names.Given as goal

abbrev pub invariant-names : goal.invariant-names
invariant-names l = l.out ≡ l.initial.out ++ flat_map spaced_name (take l.named-index l.names)
