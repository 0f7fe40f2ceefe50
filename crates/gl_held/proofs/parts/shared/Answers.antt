use Rattle.std.proofs.Common.{◌≡◌, ◌<◌, ◌∙◌, ◌++◌, ◌∷◌, [], length, take, ap, sym, arith, refl}
use Rattle.gl_delta.specs.Model.{DeltaModel}
use Rattle.gl_held.specs.Parts.{parts_of}
use Rattle.gl_held.proofs.Copies.{taken_more}
use Rattle.gl_held.proofs.PartLists.{part_at, parts_push}
use Rattle.gl_held.proofs.parts.shared.Goals as goal

pub parts-preserved : goal.parts-preserved
parts-preserved c =
    let arcs = c.args.parts.now in
    let at = c.parts.at in
    let arc = c.index-parts-at.result in
    let own = c.in_ok-try_clone.field-0 in
    let low : at < length arcs = omega (arith, c.parts-test.true, c.requires) in
    ap parts_of c.in_ok-push.ensures.items
    ∙ (parts_push c.parts.made.items own
    ∙ (ap (λ xs. xs ++ own.value.pieces ∷ []) c.parts.invariant
    ∙ (ap (λ (m : DeltaModel). take at (parts_of arcs) ++ m.pieces ∷ []) c.in_ok-try_clone.ensures
    ∙ sym (taken_more (parts_of arcs) at arc.value.pieces (part_at arcs at arc arc.value low c.index-parts-at.is refl)))))
