use Rattle.std.proofs.Common.{◌≡◌, ◌∙◌, ◌+◌, ◌++◌, ◌∷◌, [], suc, map, take, ap, sym, subst, arith}
use Rattle.spec_value.specs.Tree.{Tree}
use Rattle.spec_lists.specs.Piece.{deleted, normal}
use Rattle.gl_kernel.specs.Plans.{CanTell}
use Rattle.gl_source.proofs.Built.{cleared_more, can_clear}
use Rattle.gl_source.proofs.telling.clear.Goals as goal

pub tell-requires : goal.tell-requires
tell-requires c =
    let Can : Tree → Type 0 = λ v. CanTell (deleted v ∷ []) c.positions.d.pieces in
    subst Can (sym c.in_ok-copy.ensures) (can_clear c.args.list.now.values c.positions.position c.element.result.now c.positions.d.pieces c.positions.invariant (grind (arith, c.positions-test.true, c.len-position-end.ensures)) c.requires)

pub positions-preserved : goal.positions-preserved
positions-preserved c =
    let xs = c.args.list.now.values in
    let position = c.positions.position in
    let next : suc position ≡ position + 1 = omega arith in
    cleared_more xs position c.element.result.now c.positions.d.pieces c.tell.new.out.pieces c.element.ensures c.positions.invariant
    (c.in_ok-tell.ensures ∙ ap (λ v. normal (c.positions.d.pieces ++ deleted v ∷ [])) c.in_ok-copy.ensures)
    ∙ ap (λ k. map deleted (take k xs)) next
