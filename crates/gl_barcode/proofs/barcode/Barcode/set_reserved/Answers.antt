use Rattle.std.proofs.Common.{set, sym, ap, ◌∙◌, arith, subst}
use Rattle.gl_fourcolour.specs.Colours.{painted, AllBelow}
use Rattle.gl_fourcolour.specs.Colours as colours
use Rattle.gl_barcode.specs.Bars.{spare}
use Rattle.gl_barcode.specs.Held.{shown_of, colour_of}
use Rattle.gl_barcode.proofs.Held.{held_is, has_room, colour_below, below-painted, shown-painted, spare_is}
use Rattle.gl_barcode.proofs.barcode.Barcode.set_reserved.Goals as goal

pub paint_reserved-requires : goal.paint_reserved-requires
paint_reserved-requires c =
    let held = c.self.inside.runs in
    let h = held_is held c.args.self.now c.self.invariant c.self.view_is in
    let below = colour_below c.colour_of.result c.args.shown c.colour_of.ensures in
    let all = below-painted held.colours c.args.at c.colour_of.result below (omega (arith, c.requires.in_range, h.len)) c.self.invariant in
    let shown = shown-painted held.colours c.args.at c.colour_of.result c.args.shown c.colour_of.ensures (omega (arith, c.requires.in_range, h.len)) ∙ ap (λ bs. set bs c.args.at c.args.shown) h.shown in
    let room = has_room held c.args.self.now (painted held.colours c.args.at 1 c.colour_of.result) _ h all shown c.requires.has_room in
    (omega arith, (omega (arith, c.requires.in_range, h.len), (below, room)))

pub invariant_of-self : goal.invariant_of-self
invariant_of-self c =
    let held = c.self.inside.runs in
    let h = held_is held c.args.self.now c.self.invariant c.self.view_is in
    let below = colour_below c.colour_of.result c.args.shown c.colour_of.ensures in
    let all = below-painted held.colours c.args.at c.colour_of.result below (omega (arith, c.requires.in_range, h.len)) c.self.invariant in
    subst (λ xs. AllBelow 2 xs) (sym c.paint_reserved.ensures.colours) all

pub returns-clause-shown : goal.returns-clause-shown
returns-clause-shown c =
    let held = c.self.inside.runs in
    let h = held_is held c.args.self.now c.self.invariant c.self.view_is in
    let below = colour_below c.colour_of.result c.args.shown c.colour_of.ensures in
    let shown = shown-painted held.colours c.args.at c.colour_of.result c.args.shown c.colour_of.ensures (omega (arith, c.requires.in_range, h.len)) ∙ ap (λ bs. set bs c.args.at c.args.shown) h.shown in
    ap shown_of c.paint_reserved.ensures.colours ∙ shown

pub returns-clause-spare : goal.returns-clause-spare
returns-clause-spare c =
    let held = c.self.inside.runs in
    let h = held_is held c.args.self.now c.self.invariant c.self.view_is in
    let below = colour_below c.colour_of.result c.args.shown c.colour_of.ensures in
    let all = below-painted held.colours c.args.at c.colour_of.result below (omega (arith, c.requires.in_range, h.len)) c.self.invariant in
    omega (arith, c.paint_reserved.ensures.spare, h.spared, spare_is c.paint_reserved.new.self (subst (λ xs. AllBelow 2 xs) (sym c.paint_reserved.ensures.colours) all))
