use Rattle.std.proofs.Common.{insert, sym, ap, ◌∙◌, arith, subst}
use Rattle.gl_fourcolour.specs.Colours.{inserted, AllBelow}
use Rattle.gl_fourcolour.specs.Colours as colours
use Rattle.gl_barcode.specs.Bars.{spare}
use Rattle.gl_barcode.specs.Held.{shown_of, colour_of}
use Rattle.gl_barcode.proofs.Held.{held_is, has_room, colour_below, below-inserted, shown-inserted, spare_is}
use Rattle.gl_barcode.proofs.barcode.Barcode.insert_reserved.Goals as goal

pub insert_reserved-requires : goal.insert_reserved-requires
insert_reserved-requires c =
    let held = c.self.inside.runs in
    let h = held_is held c.args.self.now c.self.invariant c.self.view_is in
    let below = colour_below c.colour_of.result c.args.shown c.colour_of.ensures in
    let all = below-inserted held.colours c.args.at c.colour_of.result below (omega (arith, c.requires.in_range, h.len)) c.self.invariant in
    let shown = shown-inserted held.colours c.args.at c.colour_of.result c.args.shown c.colour_of.ensures ∙ ap (λ bs. insert bs c.args.at c.args.shown) h.shown in
    let room = has_room held c.args.self.now (inserted held.colours c.args.at c.colour_of.result 1) _ h all shown c.requires.has_room in
    (omega arith, (omega (arith, c.requires.in_range, h.len), (below, (omega (arith, c.requires.small, h.len), room))))

pub invariant_of-self : goal.invariant_of-self
invariant_of-self c =
    let held = c.self.inside.runs in
    let h = held_is held c.args.self.now c.self.invariant c.self.view_is in
    let below = colour_below c.colour_of.result c.args.shown c.colour_of.ensures in
    let all = below-inserted held.colours c.args.at c.colour_of.result below (omega (arith, c.requires.in_range, h.len)) c.self.invariant in
    subst (λ xs. AllBelow 2 xs) (sym c.insert_reserved.ensures.colours) all

pub returns-clause-shown : goal.returns-clause-shown
returns-clause-shown c =
    let held = c.self.inside.runs in
    let h = held_is held c.args.self.now c.self.invariant c.self.view_is in
    let below = colour_below c.colour_of.result c.args.shown c.colour_of.ensures in
    let shown = shown-inserted held.colours c.args.at c.colour_of.result c.args.shown c.colour_of.ensures ∙ ap (λ bs. insert bs c.args.at c.args.shown) h.shown in
    ap shown_of c.insert_reserved.ensures.colours ∙ shown

pub returns-clause-spare : goal.returns-clause-spare
returns-clause-spare c =
    let held = c.self.inside.runs in
    let h = held_is held c.args.self.now c.self.invariant c.self.view_is in
    let below = colour_below c.colour_of.result c.args.shown c.colour_of.ensures in
    let all = below-inserted held.colours c.args.at c.colour_of.result below (omega (arith, c.requires.in_range, h.len)) c.self.invariant in
    omega (arith, c.insert_reserved.ensures.spare, h.spared, spare_is c.insert_reserved.new.self (subst (λ xs. AllBelow 2 xs) (sym c.insert_reserved.ensures.colours) all))
