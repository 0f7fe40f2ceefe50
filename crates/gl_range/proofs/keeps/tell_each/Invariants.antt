use Rattle.std.proofs.Common.{◌≡◌, ◌+◌, ◌-◌, ◌++◌}
use Rattle.spec_views.specs.Piece.{normal}
use Rattle.gl_range.specs.Told.{told_alike}
use Rattle.gl_range.proofs.keeps.tell_each.Given as goal

-- what is told so far and what is left to tell is the whole
abbrev pub invariant-elements : goal.invariant-elements
invariant-elements g l =
    normal (l.out.pieces ++ told_alike (g.S.Shelf.items l.input) l.was l.is l.at (l.position + l.n - l.at)) ≡ normal (l.fn.out.pieces ++ told_alike (g.S.Shelf.items l.input) l.was l.is l.position l.n)
