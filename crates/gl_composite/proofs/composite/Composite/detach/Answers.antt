use Rattle.std.proofs.Common.{◌<◌, ◌∙◌, length, map, ap, sym, rules}
use Rattle.gl_composite.proofs.Attaching.{detach_is, detached_lens}
use Rattle.gl_composite.proofs.composite.Composite.detach.Goals as goal

pub returns-in-Ok-clause-pieces : goal.returns-in-Ok-clause-pieces
returns-in-Ok-clause-pieces g c =
    λ shows stands is.
    let low : c.args.at < length c.args.self.now.lists = search rules in
    c.in-Ok.ensures.pieces ∙ detach_is shows c.args.self.now.lists c.args.self.now.lens c.args.at (g.S.Shelf.items c.args.input.now) stands low is

pub returns-in-Ok-clause-stands : goal.returns-in-Ok-clause-stands
returns-in-Ok-clause-stands g c =
    λ shows stands.
    c.in-Ok.ensures.lens
    ∙ (detached_lens shows c.args.self.now.lists c.args.self.now.lens c.args.at stands ∙ ap (map (λ list. length (shows list))) (sym c.in-Ok.ensures.lists))
