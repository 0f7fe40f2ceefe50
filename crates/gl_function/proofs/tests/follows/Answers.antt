use Rattle.std.proofs.Common.{◌∙◌, map, ap, sym}
use Rattle.spec_lang.specs.Func.{eval}
use Rattle.gl_testing.proofs.Leads.{to_new}
use Rattle.gl_function.proofs.tests.follows.Goals as goal

pub advance-requires-clause-leads : goal.advance-requires-clause-leads
advance-requires-clause-leads g c =
    let change = c.args.change.now in
    (to_new change.delta.pieces change.before change.after c.requires.delta).0

pub advance-requires-clause-stands : goal.advance-requires-clause-stands
advance-requires-clause-stands g c =
    let change = c.args.change.now in
    c.in_ok-list.ensures.stands ∙ ap (map (eval c.in_ok-list.list.func)) (sym (to_new change.delta.pieces change.before change.after c.requires.delta).1)
