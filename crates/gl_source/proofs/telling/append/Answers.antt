use Rattle.std.proofs.Common.{◌≡◌, ◌∙◌, ◌+◌, ◌++◌, ◌∷◌, [], suc, map, take, ap, sym, subst, arith}
use Rattle.spec_value.specs.Tree.{Tree}
use Rattle.spec_lists.specs.Piece.{identity, inserted, normal}
use Rattle.gl_kernel.specs.Plans.{CanTell}
use Rattle.gl_source.proofs.Built.{appended_more, can_append}
use Rattle.gl_source.proofs.telling.append.Goals as goal

pub tell-requires : goal.tell-requires
tell-requires c =
    let Can : Tree → Type 0 = λ v. CanTell (inserted v ∷ []) c.values.d.pieces in
    subst Can (sym c.in_ok-copy.ensures) (can_append c.args.len c.args.values.now c.values.index c.element.result.now c.values.d.pieces c.values.invariant (grind (arith, c.values-test.true)) c.requires)

pub values-preserved : goal.values-preserved
values-preserved c =
    let n = c.args.len in
    let xs = c.args.values.now in
    let index = c.values.index in
    let next : suc index ≡ index + 1 = omega arith in
    appended_more n xs index c.element.result.now c.values.d.pieces c.tell.new.out.pieces c.element.ensures c.values.invariant
    (c.in_ok-tell.ensures ∙ ap (λ v. normal (c.values.d.pieces ++ inserted v ∷ [])) c.in_ok-copy.ensures)
    ∙ ap (λ k. identity n ++ map inserted (take k xs)) next
