use Rattle.std.proofs.Common.{◌≡◌, ◌++◌, drop}
use Rattle.gl_joined.specs.Piece.{normal}
use Rattle.gl_collection.specs.Told.{child_updates}
use Rattle.gl_collection.proofs.children.tell_children.Given as goal

-- what is told so far and what is left to tell is the whole
abbrev pub invariant-children : goal.invariant-children
invariant-children l = normal (l.out.pieces ++ child_updates (drop l.position l.olds) (drop l.position l.news)) ≡ normal (l.fn.out.pieces ++ child_updates l.olds l.news)
