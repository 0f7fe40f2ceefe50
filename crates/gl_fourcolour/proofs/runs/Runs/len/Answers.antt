use Rattle.std.proofs.Common.{length, ap, arith, subst}
use Rattle.gl_fourcolour.specs.Colours.{AllBelow}
use Rattle.gl_fourcolour.proofs.Weights.{total-sum}
use Rattle.gl_fourcolour.proofs.Maximal.{all_below}
use Rattle.gl_fourcolour.proofs.Outcomes.{row_is}
use Rattle.gl_fourcolour.proofs.runs.Runs.len.Goals as goal

pub positions-requires : goal.positions-requires
positions-requires g c =
    let i = c.self.invariant in
    omega (arith, total-sum g.row.C c.self.inside.row.runs i.few_colours i.maximal, i.small)

pub returns-clause-value : goal.returns-clause-value
returns-clause-value g c =
    let i = c.self.invariant in
    let r = row_is g.row.C c.self.inside.row c.args.self.now c.self.invariant c.self.view_is in
    omega (arith, c.positions.ensures, total-sum g.row.C c.self.inside.row.runs i.few_colours i.maximal, ap length r.0)

pub returns-clause-small : goal.returns-clause-small
returns-clause-small g c =
    let i = c.self.invariant in
    omega (arith, c.positions.ensures, total-sum g.row.C c.self.inside.row.runs i.few_colours i.maximal, i.small)

pub returns-clause-colours : goal.returns-clause-colours
returns-clause-colours g c =
    let r = row_is g.row.C c.self.inside.row c.args.self.now c.self.invariant c.self.view_is in
    subst (λ xs. AllBelow g.row.C xs) r.0 (all_below g.row.C c.self.inside.row.runs c.self.invariant.maximal)
