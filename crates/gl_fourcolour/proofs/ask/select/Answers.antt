use Rattle.std.proofs.Common.{◌+◌, ◌-◌, refl, arith}
use Rattle.gl_fourcolour.specs.Rows.{IsKept}
use Rattle.gl_fourcolour.proofs.Weights.{total-sum}
use Rattle.gl_fourcolour.proofs.Questions.{found_some, found_nothing, kth}
use Rattle.gl_fourcolour.proofs.ask.select.Goals as goal

pub find-found-requires : goal.find-found-requires
find-found-requires g c = omega (arith, total-sum g.row.C c.args.row.now.runs c.requires.few_colours c.requires.maximal, c.requires.small)

pub overflow_add-result : goal.overflow_add-result
overflow_add-result g c =
    let kept : IsKept g.row.C c.args.row.now = c.requires in
    let f = found_some g.row.C c.args.mask.bits c.args.mask.bits c.args.k _ c.args.row.now c.find-found.result.before _ c.in-Some.field-0 kept refl c.in-Some.is c.find-found.ensures in
    let k = kth c.args.mask.bits c.args.k (c.total.result + (c.args.k - c.of.result)) c.args.row.now.runs c.find-found.result.before c.in-Some.field-0 f (omega (arith, c.total.ensures, c.of.ensures)) in
    omega (arith, k.in_range, c.requires.small)

pub returns-in-Some : goal.returns-in-Some
returns-in-Some g c =
    let kept : IsKept g.row.C c.args.row.now = c.requires in
    let f = found_some g.row.C c.args.mask.bits c.args.mask.bits c.args.k _ c.args.row.now c.find-found.result.before _ c.in-Some.field-0 kept refl c.in-Some.is c.find-found.ensures in
    let k = kth c.args.mask.bits c.args.k (c.total.result + (c.args.k - c.of.result)) c.args.row.now.runs c.find-found.result.before c.in-Some.field-0 f (omega (arith, c.total.ensures, c.of.ensures)) in
    k

pub returns-in-None : goal.returns-in-None
returns-in-None g c =
    let kept : IsKept g.row.C c.args.row.now = c.requires in
    (found_nothing g.row.C c.args.mask.bits c.args.mask.bits c.args.k _ c.args.row.now c.find-found.result.before _ kept refl c.in-None.is c.find-found.ensures).0
