use Rattle.std.proofs.Common.{◌≡◌, ◌∙◌, ◌+◌, ◌++◌, ◌∷◌, [], take, ap, sym}
use Rattle.gl_held.proofs.Copies.{taken_more}
use Rattle.gl_held.proofs.proxy.rows_of.Goals as goal

pub rows-preserved : goal.rows-preserved
rows-preserved g c =
    let xs = g.S.Shelf.items c.args.input.now in
    let value = c.in_ok-copy.field-0 in
    c.in_ok-add.ensures
    ∙ (ap (λ v. c.rows.rows ++ v ∷ []) c.in_ok-copy.ensures
    ∙ (ap (λ vs. vs ++ c.element.result.now ∷ []) c.rows.invariant ∙ sym (taken_more xs c.rows.position c.element.result.now c.element.ensures)))
