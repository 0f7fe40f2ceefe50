use Rattle.std.proofs.Common.{◌∙◌, length, ap, arith}
use Rattle.spec_lists.specs.Piece.{identity}
use Rattle.spec_lists.specs.Delta.{one_remove}
use Rattle.gl_source.proofs.Built.{one_removed, unchanged_len, element_is}
use Rattle.gl_source.proofs.telling.take_out.Goals as goal

pub record_remove-requires : goal.record_remove-requires
record_remove-requires c = omega (arith, unchanged_len c.in_ok-d.d.pieces c.len.result c.in_ok-d.ensures, c.len.ensures, c.requires.within)

pub returns-in-Ok : goal.returns-in-Ok
returns-in-Ok c =
    let xs = c.args.list.now.values in
    let index = c.args.index in
    let old = c.in_ok-old.ensures ∙ element_is xs index c.element.result.now c.element.ensures in
    one_removed c.in_ok-d.d.pieces c.record_remove.new.self.pieces (length xs) index c.in_ok-old.old (c.in_ok-d.ensures ∙ ap identity c.len.ensures) c.requires.within c.in-Ok.ensures.ok
    ∙ ap (λ v. one_remove (length xs) index v) old
