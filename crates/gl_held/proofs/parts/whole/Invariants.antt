use Rattle.std.proofs.Common.{◌≡◌, ◌<◌, drop, length}
use Rattle.gl_held.specs.Parts.{parts_of, together}
use Rattle.gl_held.proofs.parts.whole.Given as goal

abbrev pub invariant-parts : goal.invariant-parts
invariant-parts l = record {
  within : l.left < length l.parts;
  same : l.whole.pieces ≡ together (drop l.left (parts_of l.parts));
}

abbrev pub decreases-parts : goal.decreases-parts
decreases-parts l = l.left
