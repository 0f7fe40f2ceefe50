use Rattle.std.proofs.Common.{length, sym, ap, ◌∙◌}
use Rattle.gl_ranktree.proofs.Seen.{one_position}
use Rattle.gl_counted.specs.Counted.{Counted, handles}
use Rattle.gl_counted.proofs.Held.{length-held, handles-held}
use Rattle.gl_counted.proofs.counted.Counted.len.Goals as goal

pub returns-clause-value : goal.returns-clause-value
returns-clause-value g c =
    let h = c.self.invariant in
    let tree = c.self.inside.tree in
    let items = c.self.inside.items.items in
    let shown = ap (λ (x : Counted g.row.T.Denot). x.entries) (sym c.self.view_is) in
    let len_is = ap length shown ∙ length-held tree.entries items h.filled in
    c.len.ensures.value ∙ sym len_is

pub returns-clause-distinct : goal.returns-clause-distinct
returns-clause-distinct g c =
    λ slot j k at_j at_k.
    let h = c.self.invariant in
    let tree = c.self.inside.tree in
    let items = c.self.inside.items.items in
    let shown = ap (λ (x : Counted g.row.T.Denot). x.entries) (sym c.self.view_is) in
    let names = ap handles shown ∙ handles-held tree.entries items h.filled in
    one_position tree.entries slot j k (h.distinct slot) (rw names at at_j) (rw names at at_k)
