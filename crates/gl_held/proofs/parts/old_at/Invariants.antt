use Rattle.std.proofs.Common.{◌≡◌, ◌<◌, ◌+◌, drop, length}
use Rattle.spec_lists.specs.Piece.{old_len}
use Rattle.spec_lists.specs.Sides.{olds}
use Rattle.gl_delta.specs.Old.{IsOldAt}
use Rattle.gl_delta.specs.declared.cell.Old.{Old}
use Rattle.gl_held.specs.Parts.{parts_of, together}
use Rattle.gl_held.proofs.parts.old_at.Given as goal

-- what became of the element is what becomes of it in the parts from here on
abbrev pub invariant-parts : goal.invariant-parts
invariant-parts l = record {
  within : l.at < old_len (together (drop l.part (parts_of l.parts)));
  same : (r : Old) → IsOldAt (olds 0 (together (drop l.part (parts_of l.parts)))) l.at r → IsOldAt (olds 0 (together (parts_of l.parts))) l.position r;
}
