use Rattle.std.proofs.Common.{◌-◌, ap, ◌∙◌, arith}
use Rattle.gl_fourcolour.specs.Counts.{part_of}
use Rattle.gl_fourcolour.proofs.Weights.{total-sum}
use Rattle.gl_fourcolour.proofs.Questions.{found_some, found_nothing, ranked, ranked_end}
use Rattle.gl_fourcolour.proofs.ask.rank.Goals as goal

pub find-found-requires : goal.find-found-requires
find-found-requires g c = omega (arith, total-sum g.row.C c.args.row.now.runs c.requires.kept.few_colours c.requires.kept.maximal, c.requires.kept.small)

pub overflow_sub-within : goal.overflow_sub-within
overflow_sub-within g c =
    let f = found_some g.row.C c.all.result.bits 15 c.args.at _ c.args.row.now c.find-found.result.before _ c.in-Some.here c.requires.kept (rw c.all.ensures) c.in-Some.is c.find-found.ensures in
    let r = ranked g.row.C c.args.mask.bits c.args.at c.args.row.now c.find-found.result.before c.in-Some.here c.requires.kept f in
    omega (arith, r.reached, c.total.ensures)

pub part-requires : goal.part-requires
part-requires g c =
    let f = found_some g.row.C c.all.result.bits 15 c.args.at _ c.args.row.now c.find-found.result.before _ c.in-Some.here c.requires.kept (rw c.all.ensures) c.in-Some.is c.find-found.ensures in
    let r = ranked g.row.C c.args.mask.bits c.args.at c.args.row.now c.find-found.result.before c.in-Some.here c.requires.kept f in
    r.colour

pub overflow_add-result : goal.overflow_add-result
overflow_add-result g c =
    let f = found_some g.row.C c.all.result.bits 15 c.args.at _ c.args.row.now c.find-found.result.before _ c.in-Some.here c.requires.kept (rw c.all.ensures) c.in-Some.is c.find-found.ensures in
    let r = ranked g.row.C c.args.mask.bits c.args.at c.args.row.now c.find-found.result.before c.in-Some.here c.requires.kept f in
    omega (arith, r.bound, c.of-before.ensures, c.part.ensures, ap (λ n. part_of c.args.mask.bits c.in-Some.here.colour (c.args.at - n)) c.total.ensures, c.requires.in_range, c.requires.kept.small)

pub returns-in-Some : goal.returns-in-Some
returns-in-Some g c =
    let f = found_some g.row.C c.all.result.bits 15 c.args.at _ c.args.row.now c.find-found.result.before _ c.in-Some.here c.requires.kept (rw c.all.ensures) c.in-Some.is c.find-found.ensures in
    let r = ranked g.row.C c.args.mask.bits c.args.at c.args.row.now c.find-found.result.before c.in-Some.here c.requires.kept f in
    omega (arith, r.is, c.of-before.ensures, c.part.ensures, ap (λ n. part_of c.args.mask.bits c.in-Some.here.colour (c.args.at - n)) c.total.ensures)

pub returns-in-None : goal.returns-in-None
returns-in-None g c =
    let f = found_nothing g.row.C c.all.result.bits 15 c.args.at _ c.args.row.now c.find-found.result.before _ c.requires.kept (rw c.all.ensures) c.in-None.is c.find-found.ensures in
    c.of-before.ensures ∙ ranked_end g.row.C c.args.mask.bits c.args.at c.args.row.now c.find-found.result.before c.requires.kept c.requires.in_range f.0 f.1
