use Rattle.std.proofs.Common.{subst}
use Rattle.gl_joined.specs.Located.{IsLocated}
use Rattle.gl_composite.specs.Kept.{Kept}
use Rattle.gl_composite.proofs.Members.{found_there}
use Rattle.gl_composite.proofs.composite.Composite.locate.Goals as goal

pub returns-clause-view : goal.returns-clause-view
returns-clause-view c =
    λ shows stands.
    let At : Kept → Type 0 = λ k. IsLocated k.lens c.args.position c.locate.result in
    found_there shows c.args.self.now.lists c.args.self.now.lens c.args.position c.locate.result stands (subst At c.self.view_is c.locate.ensures)
