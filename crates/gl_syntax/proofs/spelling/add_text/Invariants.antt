use Rattle.std.proofs.Common.{◌≡◌, ◌++◌, take}
use Rattle.std.specs.List.{flat_map}
use Rattle.spec_syntax.specs.ValueText.{spelled_byte}
use Rattle.gl_syntax.proofs.spelling.add_text.Given as goal

abbrev pub invariant-loop-byte : goal.invariant-loop-byte
invariant-loop-byte l = l.out ≡ l.initial.out ++ flat_map spelled_byte (take l.byte-index l.bytes)
