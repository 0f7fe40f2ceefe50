use Rattle.std.proofs.Common.{remove, sym, ap, ◌∙◌, arith, subst}
use Rattle.gl_fourcolour.specs.Colours.{AllBelow}
use Rattle.gl_fourcolour.specs.Colours as colours
use Rattle.gl_barcode.specs.Bars.{spare}
use Rattle.gl_barcode.specs.Held.{shown_of}
use Rattle.gl_barcode.proofs.Held.{held_is, below-removed, shown-removed, spare_is}
use Rattle.gl_barcode.proofs.barcode.Barcode.remove.Goals as goal

pub invariant_of-self : goal.invariant_of-self
invariant_of-self c =
    let held = c.self.inside.runs in
    let h = held_is held c.args.self.now c.self.invariant c.self.view_is in
    subst (λ xs. AllBelow 2 xs) (sym c.remove.ensures.colours) (below-removed held.colours c.args.at (omega (arith, c.requires, h.len)) c.self.invariant)

pub returns-clause-shown : goal.returns-clause-shown
returns-clause-shown c =
    let held = c.self.inside.runs in
    let h = held_is held c.args.self.now c.self.invariant c.self.view_is in
    ap shown_of c.remove.ensures.colours ∙ (shown-removed held.colours c.args.at (omega (arith, c.requires, h.len)) ∙ ap (λ bs. remove bs c.args.at) h.shown)

pub returns-clause-spare : goal.returns-clause-spare
returns-clause-spare c =
    let held = c.self.inside.runs in
    let h = held_is held c.args.self.now c.self.invariant c.self.view_is in
    let all = subst (λ xs. AllBelow 2 xs) (sym c.remove.ensures.colours) (below-removed held.colours c.args.at (omega (arith, c.requires, h.len)) c.self.invariant) in
    omega (arith, c.remove.ensures.spare, h.spared, spare_is c.remove.new.self all)
