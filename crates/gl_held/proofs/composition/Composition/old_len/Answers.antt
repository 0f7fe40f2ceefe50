use Rattle.std.proofs.Common.{◌<◌, ◌∙◌, length, ap, arith}
use Rattle.spec_lists.specs.Piece.{old_len}
use Rattle.gl_held.specs.Parts.{parts_of}
use Rattle.gl_held.proofs.PartLists.{some_part, old_first, length-parts_of, part_at}
use Rattle.gl_held.proofs.composition.Composition.old_len.Goals as goal

pub returns-clause-value : goal.returns-clause-value
returns-clause-value c =
    let arcs = c.self.inside.parts.items in
    let low : 0 < length arcs = omega (arith, some_part (parts_of arcs) c.self.invariant, length-parts_of arcs) in
    let got = part_at arcs 0 c.index.result.now c.deref.result.now low c.index.ensures c.deref.ensures in
    c.old_len.ensures.value ∙ (old_first (parts_of arcs) c.deref.result.now.pieces c.self.invariant got ∙ ap old_len c.self.view_is)
