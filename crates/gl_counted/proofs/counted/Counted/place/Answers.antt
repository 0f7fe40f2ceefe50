use Rattle.std.proofs.Common.{Contains, sym, ap, subst, ◌∙◌}
use Rattle.std.specs.List.{slice_get}
use Rattle.gl_counted.specs.Counted.{Counted, handles}
use Rattle.gl_counted.proofs.Held.{handles-held}
use Rattle.gl_counted.proofs.counted.Counted.place.Goals as goal

pub place-requires : goal.place-requires
place-requires g c =
    let h = c.self.invariant in
    let tree = c.self.inside.tree in
    let items = c.self.inside.items.items in
    let shown = ap (λ (x : Counted g.row.T.Denot). x.entries) (sym c.self.view_is) in
    let names = ap handles shown ∙ handles-held tree.entries items h.filled in
    rw c.slot.ensures (subst (λ xs. Contains xs c.args.handle) names c.requires)

pub returns : goal.returns
returns g c =
    let h = c.self.invariant in
    let tree = c.self.inside.tree in
    let items = c.self.inside.items.items in
    let shown = ap (λ (x : Counted g.row.T.Denot). x.entries) (sym c.self.view_is) in
    let names = ap handles shown ∙ handles-held tree.entries items h.filled in
    ap (λ xs. slice_get xs c.place.result) names ∙ rw c.slot.ensures at c.place.ensures.at
