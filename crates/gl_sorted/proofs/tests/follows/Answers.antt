use Rattle.std.proofs.Common.{sym, subst}
use Rattle.gl_testing.proofs.Leads.{to_new}
use Rattle.gl_arranged.specs.Stands.{StandsFor}
use Rattle.gl_sorted.proofs.tests.follows.Goals as goal

pub advance-requires-clause-leads : goal.advance-requires-clause-leads
advance-requires-clause-leads g c =
    let change = c.args.change.now in
    (to_new change.delta.pieces change.before change.after c.requires.delta).0

pub advance-requires-clause-stands : goal.advance-requires-clause-stands
advance-requires-clause-stands g c =
    let change = c.args.change.now in
    subst (StandsFor c.in_ok-sorted.sorted)
    (sym (to_new change.delta.pieces change.before change.after c.requires.delta).1) c.in_ok-sorted.ensures.stands
