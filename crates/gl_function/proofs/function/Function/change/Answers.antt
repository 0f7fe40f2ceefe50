use Rattle.std.proofs.Common.{◌≡◌, ◌∙◌, map, ap, sym}
use Rattle.spec_lang.specs.Func.{Func, eval}
use Rattle.gl_function.specs.Kept.{Kept}
use Rattle.gl_function.proofs.Changes.{renewed_make}
use Rattle.gl_function.proofs.function.Function.change.Goals as goal

pub apply-requires-clause-within : goal.apply-requires-clause-within
apply-requires-clause-within g c =
    let values = ap (λ (k : Kept). k.values) c.self.view_is ∙ c.requires.stands in
    (renewed_make (eval c.args.self.now.func) (eval c.args.param) (g.S.Shelf.items c.args.input.now) c.in_ok-plan.plan.log.items c.self.inside.results.values c.requires.few values
    c.in_ok-plan.ensures.edits).within

pub apply-requires-clause-few : goal.apply-requires-clause-few
apply-requires-clause-few g c =
    let values = ap (λ (k : Kept). k.values) c.self.view_is ∙ c.requires.stands in
    (renewed_make (eval c.args.self.now.func) (eval c.args.param) (g.S.Shelf.items c.args.input.now) c.in_ok-plan.plan.log.items c.self.inside.results.values c.requires.few values
    c.in_ok-plan.ensures.edits).few

pub returns-clause-stands : goal.returns-clause-stands
returns-clause-stands g c =
    let values = ap (λ (k : Kept). k.values) c.self.view_is ∙ c.requires.stands in
    let taken : c.replace-old.new.dest ≡ c.args.param = c.replace-old.ensures.after in
    c.in_ok-log.ensures.ok
    ∙ ((renewed_make (eval c.args.self.now.func) (eval c.args.param) (g.S.Shelf.items c.args.input.now) c.in_ok-plan.plan.log.items c.self.inside.results.values c.requires.few values
    c.in_ok-plan.ensures.edits).made
    ∙ ap (λ (f : Func). map (eval f) (g.S.Shelf.items c.args.input.now)) (sym taken))
