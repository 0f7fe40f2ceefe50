use Rattle.std.proofs.Common.{◌∙◌, length, map, ap, sym, arith}
use Rattle.spec_views.specs.Piece.{inverted, normal}
use Rattle.spec_views.specs.Leads.{applied}
use Rattle.spec_views.proofs.DeltaLeads.{length_from}
use Rattle.spec_lang.specs.Func.{eval}
use Rattle.gl_kernel.proofs.Fates.{delta_makes}
use Rattle.gl_kernel.proofs.Leads.{from_new}
use Rattle.gl_kernel.proofs.Made.{length-made}
use Rattle.gl_function.specs.Kept.{Kept}
use Rattle.gl_function.specs.Told.{told_results}
use Rattle.gl_function.proofs.Tellings.{follow_is}
use Rattle.gl_function.proofs.function.Function.advance.Goals as goal

pub follow-requires : goal.follow-requires
follow-requires g c =
    let ps = c.args.d.now.pieces in
    let ys = g.S.Shelf.items c.args.input.now in
    let xs = applied (map inverted ps) ys in
    let leads = from_new ps ys c.old_len-olds.ensures.normal c.requires.leads in
    let values = ap (λ (k : Kept). k.values) c.self.view_is ∙ c.requires.stands in
    omega (arith, length_from ps xs leads.starts, ap length values, length-made (eval c.args.self.now.func) xs)

pub apply-requires-clause-within : goal.apply-requires-clause-within
apply-requires-clause-within g c =
    let ps = c.args.d.now.pieces in
    let ys = g.S.Shelf.items c.args.input.now in
    let xs = applied (map inverted ps) ys in
    let leads = from_new ps ys c.old_len-olds.ensures.normal c.requires.leads in
    let values = ap (λ (k : Kept). k.values) c.self.view_is ∙ (c.requires.stands ∙ ap (λ (k : Kept). map (eval k.func) xs) (sym c.self.view_is)) in
    (delta_makes (eval c.self.inside.func) ps xs ys c.in_ok-plan.plan.log.items c.self.inside.results.values leads
    (omega (arith, c.old_len-olds.ensures.value, c.old_len-olds.ensures.few)) (omega (arith, c.new_len-news.ensures.value, c.new_len-news.ensures.few)) values c.in_ok-plan.ensures.edits).within

pub apply-requires-clause-few : goal.apply-requires-clause-few
apply-requires-clause-few g c =
    let ps = c.args.d.now.pieces in
    let ys = g.S.Shelf.items c.args.input.now in
    let xs = applied (map inverted ps) ys in
    let leads = from_new ps ys c.old_len-olds.ensures.normal c.requires.leads in
    let values = ap (λ (k : Kept). k.values) c.self.view_is ∙ (c.requires.stands ∙ ap (λ (k : Kept). map (eval k.func) xs) (sym c.self.view_is)) in
    (delta_makes (eval c.self.inside.func) ps xs ys c.in_ok-plan.plan.log.items c.self.inside.results.values leads
    (omega (arith, c.old_len-olds.ensures.value, c.old_len-olds.ensures.few)) (omega (arith, c.new_len-news.ensures.value, c.new_len-news.ensures.few)) values c.in_ok-plan.ensures.edits).few

pub returns-clause-pieces : goal.returns-clause-pieces
returns-clause-pieces g c =
    let ps = c.args.d.now.pieces in
    let ys = g.S.Shelf.items c.args.input.now in
    let xs = applied (map inverted ps) ys in
    let leads = from_new ps ys c.old_len-olds.ensures.normal c.requires.leads in
    let told = ap (λ (k : Kept). normal (told_results (eval k.func) k.values 0 ps)) c.self.view_is in
    let f = eval c.args.self.now.func in
    c.in_ok-plan.ensures.told ∙ (told ∙ (ap (λ vs. normal (told_results f vs 0 ps)) c.requires.stands ∙ follow_is f xs ps leads.starts c.old_len-olds.ensures.normal))

pub returns-clause-stands : goal.returns-clause-stands
returns-clause-stands g c =
    let ps = c.args.d.now.pieces in
    let ys = g.S.Shelf.items c.args.input.now in
    let xs = applied (map inverted ps) ys in
    let leads = from_new ps ys c.old_len-olds.ensures.normal c.requires.leads in
    let values = ap (λ (k : Kept). k.values) c.self.view_is ∙ (c.requires.stands ∙ ap (λ (k : Kept). map (eval k.func) xs) (sym c.self.view_is)) in
    c.in_ok-log.ensures.ok
    ∙ (delta_makes (eval c.self.inside.func) ps xs ys c.in_ok-plan.plan.log.items c.self.inside.results.values leads
    (omega (arith, c.old_len-olds.ensures.value, c.old_len-olds.ensures.few)) (omega (arith, c.new_len-news.ensures.value, c.new_len-news.ensures.few)) values c.in_ok-plan.ensures.edits).made
