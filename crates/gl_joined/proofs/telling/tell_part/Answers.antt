use Rattle.std.proofs.Common.{◌∙◌, ◌+◌, ◌++◌, ◌∷◌, ◌≤◌, [], length, map, drop, ap, sym, arith}
use Rattle.spec_lists.specs.Piece.{normal}
use Rattle.spec_lists.proofs.Normal.{normal_is}
use Rattle.gl_kernel.proofs.Spreads.{told_more, can_tell_part}
use Rattle.gl_kernel.proofs.Made.{append_nothing}
use Rattle.gl_joined.specs.Lone.{lone_piece}
use Rattle.gl_joined.proofs.Parts.{part_split, part_none}
use Rattle.gl_joined.proofs.telling.tell_part.Goals as goal

pub tell_one-requires : goal.tell_one-requires
tell_one-requires g c =
    let f = lone_piece c.args.lone in
    let xs = g.S.Shelf.items c.args.part.now in
    let position = c.elements.position in
    let x = c.element.result.now in
    let out = c.elements.out.pieces in
    can_tell_part c.args.out.now.pieces out (map f (drop c.args.from xs)) (f x ∷ []) (map f (drop (position + 1) xs)) c.requires
    (ap (λ ps. normal (out ++ ps)) (sym (part_split f xs position x c.element.ensures)) ∙ c.elements.invariant)

pub elements-preserved : goal.elements-preserved
elements-preserved g c =
    let f = lone_piece c.args.lone in
    let xs = g.S.Shelf.items c.args.part.now in
    let position = c.elements.position in
    let x = c.element.result.now in
    let out = c.elements.out.pieces in
    told_more (normal (c.args.out.now.pieces ++ map f (drop c.args.from xs))) out c.tell_one.new.out.pieces (f x ∷ []) (map f (drop (position + 1) xs))
    (ap (λ ps. normal (out ++ ps)) (sym (part_split f xs position x c.element.ensures)) ∙ c.elements.invariant) c.in_ok-tell_one.ensures

pub returns : goal.returns
returns g c =
    let f = lone_piece c.args.lone in
    let xs = g.S.Shelf.items c.args.part.now in
    let position = c.elements.position in
    let out = c.elements.out.pieces in
    let rest : length xs ≤ position = grind (arith, c.elements-test.false, c.len-position-end.ensures) in
    sym (normal_is out c.old_len-normal.ensures.normal)
    ∙ (ap normal (sym (append_nothing out))
    ∙ (ap (λ ps. normal (out ++ ps)) (sym (part_none f xs position rest)) ∙ c.elements.invariant))
