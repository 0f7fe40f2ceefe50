use Rattle.std.proofs.Common.{◌∙◌, length, ap, arith}
use Rattle.spec_lists.specs.Piece.{identity}
use Rattle.spec_lists.specs.Delta.{one_set}
use Rattle.gl_source.proofs.Built.{one_updated, unchanged_len, element_is}
use Rattle.gl_source.proofs.telling.put_instead.Goals as goal

pub record_set-requires : goal.record_set-requires
record_set-requires c = omega (arith, unchanged_len c.in_ok-d.d.pieces c.len.result c.in_ok-d.ensures, c.len.ensures, c.requires.within)

pub returns-in-Ok : goal.returns-in-Ok
returns-in-Ok c =
    let xs = c.args.list.now.values in
    let index = c.args.index in
    let old = c.in_ok-old.ensures ∙ element_is xs index c.element.result.now c.element.ensures in
    one_updated c.in_ok-d.d.pieces c.record_set.new.self.pieces (length xs) index c.in_ok-old.old c.args.value (c.in_ok-d.ensures ∙ ap identity c.len.ensures) c.requires.within c.in-Ok.ensures.ok
    ∙ ap (λ v. one_set (length xs) index v c.args.value) old
