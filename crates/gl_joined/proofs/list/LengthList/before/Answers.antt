use Rattle.std.proofs.Common.{◌≤◌, ◌∙◌, length, take, sum, ap, arith}
use Rattle.gl_joined.specs.Kept.{Kept}
use Rattle.gl_joined.specs.Sums.{below-fits}
use Rattle.gl_joined.proofs.Entries.{parts-sum, elements-sum, length-lens, sum_before}
use Rattle.gl_joined.proofs.list.LengthList.before.Goals as goal

pub seek-requires : goal.seek-requires
seek-requires c =
    let es = c.self.inside.tree.entries in
    let lens = ap (λ (k : Kept). sum k.lens) c.self.view_is in
    below-fits _ (omega (arith, c.requires.small, lens, parts-sum es c.self.invariant.single, elements-sum es, c.self.invariant.few))

pub returns : goal.returns
returns c =
    let es = c.self.inside.tree.entries in
    let within : c.args.index ≤ length es = omega (arith, c.requires.within, length-lens es, ap (λ (k : Kept). length k.lens) c.self.view_is) in
    sum_before es c.args.index c.seek.result.position c.seek.result.before c.seek.result.own c.self.invariant.single within c.seek.ensures
    ∙ ap (λ (k : Kept). sum (take c.args.index k.lens)) c.self.view_is
