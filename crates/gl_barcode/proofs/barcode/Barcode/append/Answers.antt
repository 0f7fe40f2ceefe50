use Rattle.std.proofs.Common.{◌++◌, replicate, sym, ap, ◌∙◌, arith, subst}
use Rattle.gl_fourcolour.specs.Colours.{AllBelow}
use Rattle.gl_fourcolour.specs.Colours as colours
use Rattle.gl_barcode.specs.Held.{shown_of}
use Rattle.gl_barcode.proofs.Held.{held_is, colour_below, below-appended, shown-appended}
use Rattle.gl_barcode.proofs.barcode.Barcode.append.Goals as goal

pub invariant_of-self-2 : goal.invariant_of-self-2
invariant_of-self-2 c =
    let held = c.self.inside.runs in
    let below = colour_below c.colour_of.result c.args.shown c.colour_of.ensures in
    subst (λ xs. AllBelow 2 xs) (sym c.in_ok-insert.ensures.ok) (below-appended held.colours c.len-end.result c.colour_of.result c.args.n c.len-end.ensures.value below c.self.invariant)

pub returns-clause-ok : goal.returns-clause-ok
returns-clause-ok c =
    let held = c.self.inside.runs in
    let h = held_is held c.args.self.now c.self.invariant c.self.view_is in
    let appended = shown-appended held.colours c.len-end.result c.colour_of.result c.args.n c.args.shown c.len-end.ensures.value c.colour_of.ensures in
    ap shown_of c.in_ok-insert.ensures.ok ∙ (appended ∙ ap (λ bs. bs ++ replicate c.args.n c.args.shown) h.shown)
