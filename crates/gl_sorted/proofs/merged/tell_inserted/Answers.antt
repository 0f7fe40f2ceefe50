use Rattle.std.proofs.Common.{◌≡◌, ◌∙◌, ◌++◌, [], ◌∷◌, length, ap, sym, subst, arith}
use Rattle.spec_sorting.specs.Piece.{normal, inserted}
use Rattle.spec_sorting.specs.Leads.{undone}
use Rattle.spec_sorting.proofs.DeltaLeads.{length-applied}
use Rattle.spec_sorting.specs.Source.{element_at}
use Rattle.spec_sorting.proofs.Spreads.{next_from}
use Rattle.gl_kernel.specs.Plans.{CanTell}
use Rattle.gl_arranged.specs.declared.changed.Ranked.{Ranked}
use Rattle.gl_sorted.proofs.Merges.{inserted_goes, can_insert, drop_rest}
use Rattle.gl_sorted.proofs.NextTellings.{value_here}
use Rattle.gl_sorted.proofs.merged.tell_inserted.Goals as goal

pub tell-requires : goal.tell-requires
tell-requires g c =
    let ys = g.S.Shelf.items c.args.input.now in
    let xs = undone c.args.d.now.pieces ys in
    let n = c.requires.next in
    let h = drop_rest c.args.came.now c.args.told.now.came n.one n.rest n.are in
    let value : c.in_ok-copy.field-0 ≡ element_at ys n.one.source = c.in_ok-copy.ensures ∙ (value_here ys _ c.element-value.result.now c.element-value.ensures ∙ ap (λ (r : Ranked). element_at ys r.source) (h.2 _)) in
    subst (λ v. CanTell (inserted v ∷ []) c.args.out.now.pieces) (sym value) (can_insert xs ys c.args.gone.now c.args.came.now c.args.out.now.pieces c.args.told.now c.requires.left n)

pub overflow_add-told-2 : goal.overflow_add-told-2
overflow_add-told-2 g c =
    let ys = g.S.Shelf.items c.args.input.now in
    let xs = undone c.args.d.now.pieces ys in
    let next = next_from c.args.told.now.news (length ys) _ c.requires.left.left.aligned.new_left in
    let first = next.0 in
    let last = next.1 in
    omega (arith, first, last, ap length c.requires.merge.delta.ends, length-applied c.args.d.now.pieces xs c.requires.merge.delta.starts, c.new_len-news.ensures.value, c.new_len-news.ensures.few)

pub returns-clause-ok : goal.returns-clause-ok
returns-clause-ok g c =
    let ys = g.S.Shelf.items c.args.input.now in
    let xs = undone c.args.d.now.pieces ys in
    let n = c.requires.next in
    let h = drop_rest c.args.came.now c.args.told.now.came n.one n.rest n.are in
    let value : c.in_ok-copy.field-0 ≡ element_at ys n.one.source = c.in_ok-copy.ensures ∙ (value_here ys _ c.element-value.result.now c.element-value.ensures ∙ ap (λ (r : Ranked). element_at ys r.source) (h.2 _)) in
    inserted_goes xs ys c.args.gone.now c.args.came.now c.args.out.now.pieces c.args.told.now c.requires.left n c.tell.new.out.pieces
    (c.in_ok-tell.ensures ∙ ap (λ v. normal (c.args.out.now.pieces ++ inserted v ∷ [])) value)
