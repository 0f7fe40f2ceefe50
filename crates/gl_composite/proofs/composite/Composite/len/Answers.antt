use Rattle.std.proofs.Common.{◌∙◌, sum, ap}
use Rattle.gl_composite.specs.Kept.{Kept}
use Rattle.gl_composite.proofs.Members.{shown_is}
use Rattle.gl_composite.proofs.composite.Composite.len.Goals as goal

pub returns-clause-view : goal.returns-clause-view
returns-clause-view c =
    λ shows stands.
    c.total.ensures ∙ (ap (λ (k : Kept). sum k.lens) c.self.view_is ∙ shown_is shows c.args.self.now.lists c.args.self.now.lens stands)
