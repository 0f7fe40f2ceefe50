use Rattle.std.proofs.Common.{◌∙◌, ap}
use Rattle.spec_views.specs.Matcher.{accepts}
use Rattle.gl_barcode.specs.Bars.{count_shown}
use Rattle.gl_filter.specs.Kept.{Kept}
use Rattle.gl_filter.proofs.Shown.{count-filter}
use Rattle.gl_filter.proofs.filter.Filter.len.Goals as goal

pub returns-clause-view : goal.returns-clause-view
returns-clause-view c =
    λ xs stands. c.shown_len.ensures
    ∙ (ap (λ (k : Kept). count_shown k.shown) c.self.view_is ∙ (ap count_shown stands ∙ count-filter (accepts c.args.self.now.matcher) xs))
