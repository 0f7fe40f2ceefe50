use Rattle.std.proofs.Common.{◌∙◌, length, map, ap, sym, arith}
use Rattle.spec_views.specs.Piece.{inverted, normal}
use Rattle.spec_views.specs.Leads.{applied}
use Rattle.spec_views.proofs.DeltaLeads.{length_from}
use Rattle.spec_views.specs.Matcher.{accepts}
use Rattle.gl_kernel.proofs.Leads.{from_new}
use Rattle.gl_kernel.proofs.Made.{length-made}
use Rattle.gl_filter.specs.Kept.{Kept}
use Rattle.gl_filter.specs.Told.{told_marks}
use Rattle.gl_filter.proofs.Tellings.{follow_is}
use Rattle.gl_filter.proofs.ShownMarks.{marks_make}
use Rattle.gl_filter.proofs.filter.Filter.advance.Goals as goal

pub follow-requires : goal.follow-requires
follow-requires g c =
    let ps = c.args.d.now.pieces in
    let ys = g.S.Shelf.items c.args.input.now in
    let xs = applied (map inverted ps) ys in
    let leads = from_new ps ys c.old_len-olds.ensures.normal c.requires.leads in
    let marks = ap (λ (k : Kept). k.shown) c.self.view_is ∙ c.requires.stands in
    omega (arith, length_from ps xs leads.starts, ap length marks, length-made (accepts c.args.self.now.matcher) xs)

pub apply-requires-clause-within : goal.apply-requires-clause-within
apply-requires-clause-within g c =
    let ps = c.args.d.now.pieces in
    let ys = g.S.Shelf.items c.args.input.now in
    let xs = applied (map inverted ps) ys in
    let leads = from_new ps ys c.old_len-olds.ensures.normal c.requires.leads in
    let marks = ap (λ (k : Kept). k.shown) c.self.view_is ∙ (c.requires.stands ∙ ap (λ (k : Kept). map (accepts k.matcher) xs) (sym c.self.view_is)) in
    (marks_make (accepts c.self.inside.matcher) ps xs ys c.in_ok-plan.plan.log.items c.self.inside.marks.shown leads
    (omega (arith, c.old_len-olds.ensures.value, c.old_len-olds.ensures.few)) (omega (arith, c.new_len-news.ensures.value, c.new_len-news.ensures.few)) marks c.in_ok-plan.ensures.edits).within

pub apply-requires-clause-few : goal.apply-requires-clause-few
apply-requires-clause-few g c =
    let ps = c.args.d.now.pieces in
    let ys = g.S.Shelf.items c.args.input.now in
    let xs = applied (map inverted ps) ys in
    let leads = from_new ps ys c.old_len-olds.ensures.normal c.requires.leads in
    let marks = ap (λ (k : Kept). k.shown) c.self.view_is ∙ (c.requires.stands ∙ ap (λ (k : Kept). map (accepts k.matcher) xs) (sym c.self.view_is)) in
    (marks_make (accepts c.self.inside.matcher) ps xs ys c.in_ok-plan.plan.log.items c.self.inside.marks.shown leads
    (omega (arith, c.old_len-olds.ensures.value, c.old_len-olds.ensures.few)) (omega (arith, c.new_len-news.ensures.value, c.new_len-news.ensures.few)) marks c.in_ok-plan.ensures.edits).few

pub returns-clause-pieces : goal.returns-clause-pieces
returns-clause-pieces g c =
    let ps = c.args.d.now.pieces in
    let ys = g.S.Shelf.items c.args.input.now in
    let xs = applied (map inverted ps) ys in
    let leads = from_new ps ys c.old_len-olds.ensures.normal c.requires.leads in
    let told = ap (λ (k : Kept). normal (told_marks (accepts k.matcher) k.shown ps)) c.self.view_is in
    let acc = accepts c.args.self.now.matcher in
    c.in_ok-plan.ensures.told ∙ (told ∙ (ap (λ bs. normal (told_marks acc bs ps)) c.requires.stands ∙ follow_is acc xs ps leads.starts))

pub returns-clause-stands : goal.returns-clause-stands
returns-clause-stands g c =
    let ps = c.args.d.now.pieces in
    let ys = g.S.Shelf.items c.args.input.now in
    let xs = applied (map inverted ps) ys in
    let leads = from_new ps ys c.old_len-olds.ensures.normal c.requires.leads in
    let marks = ap (λ (k : Kept). k.shown) c.self.view_is ∙ (c.requires.stands ∙ ap (λ (k : Kept). map (accepts k.matcher) xs) (sym c.self.view_is)) in
    c.in_ok-log.ensures.ok
    ∙ (marks_make (accepts c.self.inside.matcher) ps xs ys c.in_ok-plan.plan.log.items c.self.inside.marks.shown leads
    (omega (arith, c.old_len-olds.ensures.value, c.old_len-olds.ensures.few)) (omega (arith, c.new_len-news.ensures.value, c.new_len-news.ensures.few)) marks c.in_ok-plan.ensures.edits).made
