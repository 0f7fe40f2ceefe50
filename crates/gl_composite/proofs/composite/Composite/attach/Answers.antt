use Rattle.std.proofs.Common.{◌∙◌}
use Rattle.gl_composite.proofs.Attaching.{attach_is}
use Rattle.gl_composite.proofs.composite.Composite.attach.Goals as goal

pub returns-in-Ok-clause-pieces : goal.returns-in-Ok-clause-pieces
returns-in-Ok-clause-pieces g c =
    λ shows stands is.
    c.in-Ok.ensures.pieces ∙ attach_is shows c.args.self.now.lists c.args.self.now.lens c.args.list (g.S.Shelf.items c.args.input.now) stands is
