use Rattle.std.proofs.Common.{length, sym, ap, ◌∙◌, arith}
use Rattle.gl_counted.specs.Counted.{Counted, handles}
use Rattle.gl_counted.proofs.Held.{length-held, handles-held}
use Rattle.gl_counted.proofs.counted.Counted.descend.Goals as goal

pub returns-clause-slots : goal.returns-clause-slots
returns-clause-slots g c =
    let h = c.self.invariant in
    let tree = c.self.inside.tree in
    let items = c.self.inside.items.items in
    let shown = ap (λ (x : Counted g.row.T.Denot). x.entries) (sym c.self.view_is) in
    let names = ap handles shown ∙ handles-held tree.entries items h.filled in
    c.descend.ensures.slots ∙ sym names

pub returns-clause-end : goal.returns-clause-end
returns-clause-end g c =
    let h = c.self.invariant in
    let tree = c.self.inside.tree in
    let items = c.self.inside.items.items in
    let shown = ap (λ (x : Counted g.row.T.Denot). x.entries) (sym c.self.view_is) in
    let len_is = ap length shown ∙ length-held tree.entries items h.filled in
    c.descend.ensures.end ∙ sym len_is

pub returns-clause-shallow : goal.returns-clause-shallow
returns-clause-shallow g c =
    λ digits few.
    let h = c.self.invariant in
    let tree = c.self.inside.tree in
    let items = c.self.inside.items.items in
    let shown = ap (λ (x : Counted g.row.T.Denot). x.entries) (sym c.self.view_is) in
    let len_is = ap length shown ∙ length-held tree.entries items h.filled in
    c.descend.ensures.shallow digits (omega (arith, few, len_is))
