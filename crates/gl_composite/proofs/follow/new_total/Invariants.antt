use Rattle.std.proofs.Common.{◌≡◌, ◌+◌, ◌*◌, ◌≤◌, drop}
use Rattle.gl_joined.specs.Piece.{new_len}
use Rattle.gl_composite.specs.Told.{told_by}
use Rattle.gl_composite.proofs.follow.new_total.Given as goal

-- what was counted and what is left are the whole; each member adds less than a length
abbrev pub invariant-members : goal.invariant-members
invariant-members l = record {
  total : l.total + new_len (told_by l.deltas (drop l.index l.lists) (drop l.index l.lens.lens)) ≡ new_len (told_by l.deltas l.lists l.lens.lens);
  few : l.total ≤ l.index * 4294967296;
}
