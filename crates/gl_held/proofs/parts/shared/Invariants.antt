use Rattle.std.proofs.Common.{◌≡◌, take}
use Rattle.gl_held.specs.Parts.{parts_of}
use Rattle.gl_held.proofs.parts.shared.Given as goal

abbrev pub invariant-parts : goal.invariant-parts
invariant-parts l = parts_of l.made.items ≡ take l.at (parts_of l.parts)
