use Rattle.std.proofs.Common.{◌≡◌, ◌∙◌, map, ap, sym, arith}
use Rattle.spec_views.specs.Matcher.{Matcher, accepts}
use Rattle.gl_filter.specs.Kept.{Kept}
use Rattle.gl_filter.proofs.Changes.{change_is, questions_are}
use Rattle.gl_filter.proofs.ShownMarks.{switches_make}
use Rattle.gl_filter.proofs.filter.Filter.change.Goals as goal

pub apply-requires-clause-within : goal.apply-requires-clause-within
apply-requires-clause-within g c =
    let marks = ap (λ (k : Kept). k.shown) c.self.view_is ∙ c.requires.stands in
    (switches_make (accepts c.args.self.now.matcher) (accepts c.args.param) (g.S.Shelf.items c.args.input.now) c.in_ok-plan.plan.log.items c.self.inside.marks.shown c.requires.few marks
    c.in_ok-plan.ensures.edits).within

pub apply-requires-clause-few : goal.apply-requires-clause-few
apply-requires-clause-few g c =
    let marks = ap (λ (k : Kept). k.shown) c.self.view_is ∙ c.requires.stands in
    (switches_make (accepts c.args.self.now.matcher) (accepts c.args.param) (g.S.Shelf.items c.args.input.now) c.in_ok-plan.plan.log.items c.self.inside.marks.shown c.requires.few marks
    c.in_ok-plan.ensures.edits).few

pub returns-clause-pieces : goal.returns-clause-pieces
returns-clause-pieces g c = c.in_ok-plan.ensures.told ∙ change_is (accepts c.args.self.now.matcher) (accepts c.args.param) (g.S.Shelf.items c.args.input.now)

pub returns-clause-stands : goal.returns-clause-stands
returns-clause-stands g c =
    let xs = g.S.Shelf.items c.args.input.now in
    let marks = ap (λ (k : Kept). k.shown) c.self.view_is ∙ c.requires.stands in
    let taken : c.replace-old.new.dest ≡ c.args.param = c.replace-old.ensures.after in
    c.in_ok-log.ensures.ok
    ∙ ((switches_make (accepts c.args.self.now.matcher) (accepts c.args.param) xs c.in_ok-plan.plan.log.items c.self.inside.marks.shown c.requires.few marks c.in_ok-plan.ensures.edits).made
    ∙ ap (λ (m : Matcher). map (accepts m) xs) (sym taken))

pub returns-in_err-plan-clause-counted : goal.returns-in_err-plan-clause-counted
returns-in_err-plan-clause-counted g c = omega (arith, c.replan.ensures.counted, questions_are c.args.kind c.args.self.now.shown)

pub returns-in_err-log-clause-counted : goal.returns-in_err-log-clause-counted
returns-in_err-log-clause-counted g c = omega (arith, c.replan.ensures.counted, questions_are c.args.kind c.args.self.now.shown)

pub returns-clause-counted : goal.returns-clause-counted
returns-clause-counted g c = omega (arith, c.replan.ensures.counted, questions_are c.args.kind c.args.self.now.shown)
