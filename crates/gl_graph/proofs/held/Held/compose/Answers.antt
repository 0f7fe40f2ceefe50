use Rattle.std.proofs.Common.{◌≡◌, true, subst}
use Rattle.spec_states.specs.Shown.{is_held}
use Rattle.gl_graph.specs.Held.{own_of_held}
use Rattle.gl_graph.proofs.HeldSteps.{levels_open, since_some}
use Rattle.gl_graph.proofs.held.Held.compose.Goals as goal

pub follow-requires-clause-open : goal.follow-requires-clause-open
follow-requires-clause-open c =
    levels_open c.in-Transaction.transaction.levels (subst (λ k. is_held (own_of_held 0 k) ≡ true) c.in-Transaction.is (c.requires.held 0))

pub follow-requires-in-Freezable-clause-frozen : goal.follow-requires-in-Freezable-clause-frozen
follow-requires-in-Freezable-clause-frozen c =
    since_some c.in-Freezable.freezable (subst (λ k. is_held (own_of_held 0 k) ≡ true) c.in-Freezable.is (c.requires.held 0))
