use Rattle.std.proofs.Common.{◌≡◌, ◌++◌, drop}
use Rattle.gl_joined.specs.Piece.{normal}
use Rattle.gl_kernel.specs.Fates.{edits_of}
use Rattle.gl_composite.specs.Told.{told_by, fates}
use Rattle.gl_composite.proofs.follow.follow.Given as goal

-- what is told so far and what is left to tell is the whole, and so with the edits
abbrev pub invariant-members : goal.invariant-members
invariant-members l = record {
  told : normal (l.plan.out.pieces ++ told_by l.deltas (drop l.index l.lists) (drop l.index l.lens.lens)) ≡ normal (told_by l.deltas l.lists l.lens.lens);
  edits : l.plan.log.items ++ edits_of l.index (fates l.deltas (drop l.index l.lists)) ≡ edits_of 0 (fates l.deltas l.lists);
  position : l.plan.position ≡ l.index;
}
