use Rattle.std.proofs.Common.{◌≡◌, ◌+◌, ◌++◌, replicate}
use Rattle.spec_views.specs.Piece.{kept, normal}
use Rattle.gl_range.specs.Told.{told_in}
use Rattle.gl_range.proofs.keeps.tell_keeps.Given as goal

-- what is told so far and what is left to tell is the whole, and the places go on as far as elements are told
abbrev pub invariant-stretches : goal.invariant-stretches
invariant-stretches g l = record {
  told : normal (l.walk.out.pieces ++ told_in (g.S.Shelf.items l.input) l.slices l.walk.old_position l.walk.new_position (replicate l.left kept))
      ≡ normal (l.fn.walk.out.pieces ++ told_in (g.S.Shelf.items l.input) l.slices l.fn.walk.old_position l.fn.walk.new_position (replicate l.n kept));
  olds : l.walk.old_position + l.left ≡ l.fn.walk.old_position + l.n;
  news : l.walk.new_position + l.left ≡ l.fn.walk.new_position + l.n;
}

abbrev pub decreases-stretches : goal.decreases-stretches
decreases-stretches g l = l.left
