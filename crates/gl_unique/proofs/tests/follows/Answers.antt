use Rattle.std.proofs.Common.{sym, subst}
use Rattle.gl_testing.proofs.Leads.{to_new}
use Rattle.gl_classes.specs.Stands.{StandsFor}
use Rattle.gl_unique.proofs.tests.follows.Goals as goal

pub advance-requires-clause-leads : goal.advance-requires-clause-leads
advance-requires-clause-leads g c =
    let change = c.args.change.now in
    (to_new change.delta.pieces change.before change.after c.requires.delta).0

pub advance-requires-clause-stands : goal.advance-requires-clause-stands
advance-requires-clause-stands g c =
    let change = c.args.change.now in
    subst (StandsFor c.in_ok-unique.unique)
    (sym (to_new change.delta.pieces change.before change.after c.requires.delta).1) c.in_ok-unique.ensures.stands
