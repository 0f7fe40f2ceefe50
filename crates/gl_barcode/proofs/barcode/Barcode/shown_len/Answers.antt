use Rattle.std.proofs.Common.{take, ap, ◌∙◌}
use Rattle.gl_fourcolour.specs.Colours as colours
use Rattle.std.proofs.Math.Seq.{take-length}
use Rattle.gl_fourcolour.specs.Colours.{count_among}
use Rattle.gl_barcode.proofs.Held.{held_is}
use Rattle.gl_barcode.proofs.barcode.Barcode.shown_len.Goals as goal

pub returns : goal.returns
returns c =
    let held = c.self.inside.runs in
    let h = held_is held c.args.self.now c.self.invariant c.self.view_is in
    c.rank.ensures ∙ (ap (λ k. count_among 2 (take k held.colours)) c.len.ensures.value ∙ (ap (λ xs. count_among 2 xs) (take-length held.colours) ∙ h.count))
