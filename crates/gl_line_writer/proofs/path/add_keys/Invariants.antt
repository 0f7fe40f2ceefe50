use Rattle.std.proofs.Common.{◌≡◌, ◌++◌, take}
use Rattle.std.specs.List.{flat_map}
use Rattle.gl_line_writer.specs.Pieces.{key_after_comma}
use Rattle.gl_line_writer.proofs.path.add_keys.Given as goal

abbrev pub invariant-keys : goal.invariant-keys
invariant-keys l = l.out ≡ l.initial.out ++ flat_map key_after_comma (take l.key-index l.keys)
