use Rattle.std.proofs.Common.{sym, subst}
use Rattle.spec_sorting.specs.Sides.{sides}
use Rattle.spec_sorting.specs.Leads.{undone}
use Rattle.gl_arranged.specs.Changes.{AreRanked}
use Rattle.gl_classes.specs.Kept.{Kept}
use Rattle.gl_classes.specs.Stands.{StandsFor}
use Rattle.gl_classes.proofs.Following.{follows}
use Rattle.gl_classes.proofs.classes.Classes.advance.Goals as goal

pub follow-requires-clause-follows : goal.follow-requires-clause-follows
follow-requires-clause-follows g c =
    let h = c.in_ok-gone.ensures in
    let ys = g.S.Shelf.items c.args.input.now in
    let d = c.args.d.now.pieces in
    let stands = subst (λ (a : Kept). StandsFor a (undone d ys)) (sym c.self.view_is) c.requires.stands in
    follows _ c.advance.new.self (undone d ys) ys d c.as_slice.result.now c.as_slice-2.result.now c.in_ok-gone.field-0.undo stands (h.order, h.stands)
    (subst (AreRanked c.self.inside.list.tree.places (sides d).old) (sym c.as_slice.ensures.value) h.gone)
    (subst (AreRanked c.advance.new.self.tree.places (sides d).new) (sym c.as_slice-2.ensures.value) h.came) h.marks h.inserted
