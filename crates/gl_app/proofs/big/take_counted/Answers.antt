use Rattle.std.proofs.Common.{◌∙◌, ◌<◌, ap, subst, sym}
use Rattle.gl_world.specs.History.{History}
use Rattle.spec_reports.specs.Run.{left_to}
use Rattle.gl_app.proofs.AllSections.{some_left}
use Rattle.gl_app.proofs.big.take_counted.Goals as goal

pub take_section-requires-clause-left : goal.take_section-requires-clause-left
take_section-requires-clause-left g c =
    let plan = c.args.world.now.plan in
    let few = subst (λ k. c.sections.counter < k) (c.left-count.ensures ∙ ap (λ o. left_to plan 0 o) c.requires.open)
    c.sections-test.true in
    subst (λ (w : History). 0 < left_to w.plan 0 w.order) (sym c.sections.invariant)
    (some_left plan c.sections.counter few)
