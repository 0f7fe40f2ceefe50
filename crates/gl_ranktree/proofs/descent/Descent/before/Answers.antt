use Rattle.std.proofs.Common.{ap, arith}
use Rattle.gl_ranktree.specs.Descending.{Descending}
use Rattle.gl_ranktree.proofs.Descents.{at_fork}
use Rattle.gl_ranktree.proofs.descent.Descent.before.Goals as goal

pub invariant_of-result : goal.invariant_of-result
invariant_of-result g c =
    let first_is = ap (λ (d : Descending). d.first) c.self.view_is in
    let end_is = ap (λ (d : Descending). d.end) c.self.view_is in
    let f = at_fork g.S.Summary.sums _ _ _ _ c.self.invariant (omega (arith, c.requires, first_is, end_is)) in
    rw c.read.ensures f.before

pub returns-clause-lower : goal.returns-clause-lower
returns-clause-lower g c =
    let first_is = ap (λ (d : Descending). d.first) c.self.view_is in
    let end_is = ap (λ (d : Descending). d.end) c.self.view_is in
    let levels_is = ap (λ (d : Descending). d.levels) c.self.view_is in
    let f = at_fork g.S.Summary.sums _ _ _ _ c.self.invariant (omega (arith, c.requires, first_is, end_is)) in
    rw c.read.ensures (omega (arith, f.lower_before, levels_is))
