use Rattle.std.proofs.Common.{◌∙◌, insert, ap}
use Rattle.gl_delta.proofs.RankedLists.{items, items_put, items_are}
use Rattle.gl_delta.proofs.ranked.Ranked.insert.Goals as goal

pub returns-clause-values : goal.returns-clause-values
returns-clause-values c =
    let es = c.self.inside.list.entries in
    let seen = items_are es c.self.inside.list.room c.args.self.now c.self.view_is in
    ap items c.insert_reserved.ensures.entries
    ∙ (items_put es c.args.position c.insert_reserved.result c.args.value ∙ ap (λ vs. insert vs c.args.position c.args.value) seen.0)
