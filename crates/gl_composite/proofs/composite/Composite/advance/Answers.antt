use Rattle.std.proofs.Common.{◌∙◌, length, map, ap, sym}
use Rattle.gl_joined.specs.Piece.{normal}
use Rattle.gl_composite.proofs.Members.{told_is, new_lens_are}
use Rattle.gl_composite.proofs.composite.Composite.advance.Goals as goal

pub returns-in-Ok-clause-pieces : goal.returns-in-Ok-clause-pieces
returns-in-Ok-clause-pieces c =
    λ shows stands.
    c.in-Ok.ensures.pieces ∙ ap normal (told_is c.args.deltas.now shows c.args.self.now.lists c.args.self.now.lens stands)

pub returns-in-Ok-clause-stands : goal.returns-in-Ok-clause-stands
returns-in-Ok-clause-stands c =
    λ shows after stands leads.
    c.in-Ok.ensures.lens
    ∙ (new_lens_are c.args.deltas.now shows after c.args.self.now.lists c.args.self.now.lens stands leads
    ∙ ap (map (λ list. length (after list))) (sym c.in-Ok.ensures.lists))
