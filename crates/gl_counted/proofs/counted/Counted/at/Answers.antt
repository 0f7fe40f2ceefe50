use Rattle.std.proofs.Common.{Some, sym, ap, ◌∙◌}
use Rattle.std.specs.List.{slice_get}
use Rattle.std.specs.Option.{option_map}
use Rattle.std.proofs.lemmas.Option.{slice_get-map}
use Rattle.gl_counted.specs.Counted.{Counted, handles}
use Rattle.gl_counted.proofs.Held.{handles-held}
use Rattle.gl_counted.proofs.counted.Counted.at.Goals as goal

pub returns-in-Some : goal.returns-in-Some
returns-in-Some g c =
    let h = c.self.invariant in
    let tree = c.self.inside.tree in
    let items = c.self.inside.items.items in
    let shown = ap (λ (x : Counted g.row.T.Denot). x.entries) (sym c.self.view_is) in
    let names = ap handles shown ∙ handles-held tree.entries items h.filled in
    ap Some c.new.ensures ∙ sym (ap (λ xs. slice_get xs c.args.position) names ∙ (slice_get-map (λ e. e.0) tree.entries c.args.position ∙ ap (option_map (λ e. e.0)) (sym c.in-Some.ensures)))

pub returns-in-None : goal.returns-in-None
returns-in-None g c =
    let h = c.self.invariant in
    let tree = c.self.inside.tree in
    let items = c.self.inside.items.items in
    let shown = ap (λ (x : Counted g.row.T.Denot). x.entries) (sym c.self.view_is) in
    let names = ap handles shown ∙ handles-held tree.entries items h.filled in
    sym (ap (λ xs. slice_get xs c.args.position) names ∙ (slice_get-map (λ e. e.0) tree.entries c.args.position ∙ ap (option_map (λ e. e.0)) (sym c.in-None.ensures)))
