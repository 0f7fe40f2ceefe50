use Rattle.std.proofs.Common.{ap, arith, ◌∙◌}
use Rattle.gl_fourcolour.specs.Colours.{count_among}
use Rattle.gl_fourcolour.proofs.Weights.{total-sum, weigh-sum}
use Rattle.gl_fourcolour.proofs.Outcomes.{row_is}
use Rattle.gl_fourcolour.proofs.runs.Runs.count.Goals as goal

pub weight-requires : goal.weight-requires
weight-requires g c =
    let i = c.self.invariant in
    omega (arith, total-sum g.row.C c.self.inside.row.runs i.few_colours i.maximal, i.small)

pub returns : goal.returns
returns g c =
    let i = c.self.invariant in
    let r = row_is g.row.C c.self.inside.row c.args.self.now c.self.invariant c.self.view_is in
    c.weight.ensures ∙ (weigh-sum g.row.C c.args.colours c.self.inside.row.runs i.few_colours i.maximal ∙ ap (count_among c.args.colours) r.0)
