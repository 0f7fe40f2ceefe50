use Rattle.std.proofs.Common.{take, ap, ◌∙◌}
use Rattle.gl_fourcolour.specs.Colours as colours
use Rattle.gl_barcode.specs.Bars.{count_shown}
use Rattle.gl_barcode.proofs.Held.{held_is, count-taken}
use Rattle.gl_barcode.proofs.barcode.Barcode.rank.Goals as goal

pub returns : goal.returns
returns c =
    let held = c.self.inside.runs in
    let h = held_is held c.args.self.now c.self.invariant c.self.view_is in
    c.rank.ensures ∙ (count-taken c.args.position held.colours c.self.invariant ∙ ap (λ bs. count_shown (take c.args.position bs)) h.shown)
