use Rattle.std.proofs.Common.{◌≤◌, ◌++◌, ◌∷◌, [], length, take}
use Rattle.gl_held.specs.Parts.{GoesOn, parts_of}
use Rattle.gl_held.proofs.parts.with_next.Given as goal

-- the parts that are left and the last one are the composition with the next one
abbrev pub invariant-merges : goal.invariant-merges
invariant-merges l = record {
  within : l.kept ≤ length l.parts;
  goes_on : GoesOn (parts_of l.parts) l.next.pieces (take l.kept (parts_of l.parts) ++ l.last.pieces ∷ []);
}

abbrev pub decreases-merges : goal.decreases-merges
decreases-merges l = l.kept
