use Rattle.std.proofs.Common.{length, sym, ap, ◌∙◌, arith}
use Rattle.gl_counted.specs.Counted.{Counted}
use Rattle.gl_counted.proofs.Held.{length-held}
use Rattle.gl_counted.proofs.counted.Counted.height.Goals as goal

pub returns : goal.returns
returns g c =
    let h = c.self.invariant in
    let tree = c.self.inside.tree in
    let items = c.self.inside.items.items in
    let shown = ap (λ (x : Counted g.row.T.Denot). x.entries) (sym c.self.view_is) in
    let len_is = ap length shown ∙ length-held tree.entries items h.filled in
    record { deep = omega (arith, c.height.ensures.deep, len_is); shallow = λ digits few. c.height.ensures.shallow digits (omega (arith, few, len_is)) }
