use Rattle.std.proofs.Common.{◌∙◌, slice_get, ap, sym}
use Rattle.gl_delta.proofs.RankedLists.{items_are, found_there}
use Rattle.gl_delta.proofs.ranked.Ranked.at.Goals as goal

pub returns : goal.returns
returns c =
    let es = c.self.inside.list.entries in
    let seen = items_are es c.self.inside.list.room c.args.self.now c.self.view_is in
    ap (λ vs. slice_get vs c.args.position) (sym seen.0)
    ∙ found_there es c.args.position c.in-Some.handle c.item.result.now c.len-distinct.ensures.distinct (sym c.in-Some.is ∙ c.at.ensures) c.item.ensures
