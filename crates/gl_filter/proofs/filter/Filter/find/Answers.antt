use Rattle.std.proofs.Common.{◌∙◌, List, Bool, ap, subst, arith}
use Rattle.spec_views.specs.Matcher.{accepts}
use Rattle.gl_barcode.specs.Bars.{count_shown, IsKthShown}
use Rattle.gl_filter.specs.Kept.{Kept}
use Rattle.gl_filter.proofs.Shown.{count-filter, kth_accepted, none_past}
use Rattle.gl_filter.proofs.filter.Filter.find.Goals as goal

pub returns-in-Some-clause-found : goal.returns-in-Some-clause-found
returns-in-Some-clause-found c =
    λ xs stands. let marks = ap (λ (k : Kept). k.shown) c.self.view_is ∙ stands in
    let Kth : List Bool → Type 0 = λ bs. IsKthShown c.args.position bs c.in-Some.at in
    kth_accepted (accepts c.args.self.now.matcher) xs c.args.position c.in-Some.at (subst Kth marks c.in-Some.ensures.position)

pub returns-in-None-clause-found : goal.returns-in-None-clause-found
returns-in-None-clause-found c =
    λ xs stands. let marks = ap (λ (k : Kept). k.shown) c.self.view_is ∙ stands in
    let count = ap count_shown marks ∙ count-filter (accepts c.args.self.now.matcher) xs in
    none_past (accepts c.args.self.now.matcher) xs c.args.position (grind (arith, c.in-None.ensures.some.1, count))
