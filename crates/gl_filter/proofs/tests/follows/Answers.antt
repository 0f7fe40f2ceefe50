use Rattle.std.proofs.Common.{◌∙◌, map, ap, sym}
use Rattle.spec_views.specs.Matcher.{accepts}
use Rattle.gl_filter.proofs.Cases.{leads_to, old_again}
use Rattle.gl_filter.proofs.tests.follows.Goals as goal

pub advance-requires-clause-leads : goal.advance-requires-clause-leads
advance-requires-clause-leads g c = leads_to c.args.change.now.delta.pieces c.args.change.now.before c.args.change.now.after c.requires.delta

pub advance-requires-clause-stands : goal.advance-requires-clause-stands
advance-requires-clause-stands g c =
    let again = old_again c.args.change.now.delta.pieces c.args.change.now.before c.args.change.now.after c.requires.delta in
    c.in_ok-filter.ensures.stands ∙ ap (map (accepts c.in_ok-filter.filter.matcher)) (sym again)
