use Rattle.std.proofs.Common.{◌∙◌, length, ap, sym}
use Rattle.gl_testing.proofs.Leads.{to_new}
use Rattle.gl_range.proofs.tests.follows.Goals as goal

pub advance-requires-clause-leads : goal.advance-requires-clause-leads
advance-requires-clause-leads g c =
    let change = c.args.change.now in
    (to_new change.delta.pieces change.before change.after c.requires.delta).0

pub advance-requires-clause-stands : goal.advance-requires-clause-stands
advance-requires-clause-stands g c =
    let change = c.args.change.now in
    c.in_ok-range.ensures.stands ∙ ap length (sym (to_new change.delta.pieces change.before change.after c.requires.delta).1)
