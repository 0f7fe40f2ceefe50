use Rattle.std.proofs.Common.{◌∙◌, ◌+◌, ◌-◌, ◌++◌, ◌<◌, ◌≤◌, [], ap, sym, arith}
use Rattle.spec_views.specs.Piece.{kept, normal}
use Rattle.spec_views.proofs.Normal.{normal_is}
use Rattle.spec_views.specs.Chosen.{told_of_pair}
use Rattle.gl_kernel.proofs.Spreads.{told_more, can_tell_part}
use Rattle.gl_kernel.proofs.Made.{append_nothing}
use Rattle.gl_range.specs.Told.{told_alike}
use Rattle.gl_range.proofs.Kept.{alike_first, alike_none}
use Rattle.gl_range.proofs.keeps.tell_each.Goals as goal

pub tell_kept-requires : goal.tell_kept-requires
tell_kept-requires g c =
    let ys = g.S.Shelf.items c.args.input.now in
    let at = c.elements.at in
    let end = c.args.position + c.args.n in
    let x = c.element.result.now in
    let out = c.elements.out.pieces in
    let low : at < end = grind (arith, c.elements-test.true) in
    let first = alike_first ys c.args.was c.args.is at end x low c.element.ensures in
    can_tell_part c.args.out.now.pieces out (told_alike ys c.args.was c.args.is c.args.position c.args.n) (told_of_pair c.args.was c.args.is kept x x [])
    (told_alike ys c.args.was c.args.is (at + 1) (end - (at + 1))) c.requires.can (ap (λ ps. normal (out ++ ps)) (sym first) ∙ c.elements.invariant)

pub elements-preserved : goal.elements-preserved
elements-preserved g c =
    let ys = g.S.Shelf.items c.args.input.now in
    let at = c.elements.at in
    let end = c.args.position + c.args.n in
    let x = c.element.result.now in
    let out = c.elements.out.pieces in
    let low : at < end = grind (arith, c.elements-test.true) in
    let first = alike_first ys c.args.was c.args.is at end x low c.element.ensures in
    told_more (normal (c.args.out.now.pieces ++ told_alike ys c.args.was c.args.is c.args.position c.args.n)) out c.tell_kept.new.out.pieces (told_of_pair c.args.was c.args.is kept x x [])
    (told_alike ys c.args.was c.args.is (at + 1) (end - (at + 1))) (ap (λ ps. normal (out ++ ps)) (sym first) ∙ c.elements.invariant) c.in_ok-tell_kept.ensures

pub returns : goal.returns
returns g c =
    let ys = g.S.Shelf.items c.args.input.now in
    let at = c.elements.at in
    let end = c.args.position + c.args.n in
    let out = c.elements.out.pieces in
    let rest : end ≤ at = grind (arith, c.elements-test.false) in
    sym (normal_is out c.old_len-normal.ensures.normal)
    ∙ (ap normal (sym (append_nothing out))
    ∙ (ap (λ ps. normal (out ++ ps)) (sym (alike_none ys c.args.was c.args.is at end rest)) ∙ c.elements.invariant))
