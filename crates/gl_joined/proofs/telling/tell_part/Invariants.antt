use Rattle.std.proofs.Common.{◌≡◌, ◌++◌, map, drop}
use Rattle.spec_lists.specs.Piece.{normal}
use Rattle.gl_joined.specs.Lone.{lone_piece}
use Rattle.gl_joined.proofs.telling.tell_part.Given as goal

-- what is told so far and what is left to tell is the whole
abbrev pub invariant-elements : goal.invariant-elements
invariant-elements g l =
    normal (l.out.pieces ++ map (lone_piece l.lone) (drop l.position (g.S.Shelf.items l.part)))
    ≡ normal (l.fn.out.pieces ++ map (lone_piece l.lone) (drop l.from (g.S.Shelf.items l.part)))
