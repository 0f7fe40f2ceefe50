use Rattle.std.proofs.Common.{◌∙◌, remove, slice_get, ap, sym}
use Rattle.gl_delta.proofs.RankedLists.{items_are, taken_there}
use Rattle.gl_delta.proofs.ranked.Ranked.take.Goals as goal

pub returns-clause-taken : goal.returns-clause-taken
returns-clause-taken c =
    let es = c.self.inside.list.entries in
    let seen = items_are es c.self.inside.list.room c.args.self.now c.self.view_is in
    let t = taken_there es c.take.new.self.entries c.args.position c.in-Some.handle c.take.result c.len-distinct.ensures.distinct (sym c.in-Some.is ∙ c.at.ensures) c.take.ensures.taken in
    ap (λ vs. slice_get vs c.args.position) (sym seen.0) ∙ t.value

pub returns-clause-rest : goal.returns-clause-rest
returns-clause-rest c =
    let es = c.self.inside.list.entries in
    let seen = items_are es c.self.inside.list.room c.args.self.now c.self.view_is in
    let t = taken_there es c.take.new.self.entries c.args.position c.in-Some.handle c.take.result c.len-distinct.ensures.distinct (sym c.in-Some.is ∙ c.at.ensures) c.take.ensures.taken in
    t.rest ∙ ap (λ vs. remove vs c.args.position) seen.0
