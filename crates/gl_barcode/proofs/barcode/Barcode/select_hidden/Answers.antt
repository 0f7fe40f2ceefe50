use Rattle.std.proofs.Common.{arith}
use Rattle.gl_fourcolour.specs.Colours as colours
use Rattle.gl_barcode.proofs.Held.{held_is, hidden_found}
use Rattle.gl_barcode.proofs.barcode.Barcode.select_hidden.Goals as goal

pub returns-clause-some : goal.returns-clause-some
returns-clause-some c =
    let held = c.self.inside.runs in
    let h = held_is held c.args.self.now c.self.invariant c.self.view_is in (
      λ some. omega (arith, c.select.ensures.some.0 some, h.hidden),
      λ more. c.select.ensures.some.1 (omega (arith, more, h.hidden)),
    )

pub returns-clause-position : goal.returns-clause-position
returns-clause-position c =
    let held = c.self.inside.runs in
    let h = held_is held c.args.self.now c.self.invariant c.self.view_is in
    hidden_found c.args.k held.colours c.args.self.now.shown c.select.result c.self.invariant h.shown c.select.ensures.position
