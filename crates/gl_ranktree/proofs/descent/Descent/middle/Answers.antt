use Rattle.std.proofs.Common.{◌≡◌, sym, ap, subst, arith}
use Rattle.gl_ranktree.specs.Descending.{Descending, ForksAt}
use Rattle.gl_ranktree.proofs.Descents.{at_end, at_fork, some_left}
use Rattle.gl_ranktree.proofs.descent.Descent.middle.Goals as goal

pub returns-then-self : goal.returns-then-self
returns-then-self g c =
    let none = at_end g.S.Summary.sums _ _ _ _ c.self.invariant c.if-self.true in
    subst (λ (d : Descending). d.first ≡ d.end) c.self.view_is (omega (arith, none))

pub returns-else-self : goal.returns-else-self
returns-else-self g c =
    let m = g.S.Summary.sums in
    let d = c.self.invariant in
    let f = at_fork m _ _ _ _ d (some_left m _ _ _ _ d c.if-self.false) in
    subst (λ v. ForksAt v c.self.inside.top) c.self.view_is f.forks
