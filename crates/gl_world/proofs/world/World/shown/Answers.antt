use Rattle.std.proofs.Common.{subst}
use Rattle.spec_states.specs.Shown.{EachShowsItsView}
use Rattle.spec_runs.specs.Run.{run}
use Rattle.spec_runs.proofs.Ordered.{views_of_run}
use Rattle.gl_world.specs.History.{History}
use Rattle.gl_world.proofs.world.World.shown.Goals as goal

pub returns-clause-views : goal.returns-clause-views
returns-clause-views g c =
    let w = c.self.inside in
    let world = c.self.invariant in
    let P : History → Type 0 = λ h. EachShowsItsView (run h.plan h.order).state in
    subst P c.self.view_is (views_of_run w.plan w.log.order.items world.whole.formed world.whole.acyclic)
