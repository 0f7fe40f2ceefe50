use Rattle.std.proofs.Common.{◌≡◌, ◌∙◌, ◌++◌, [], ◌∷◌, None, length, ap, sym, subst, arith}
use Rattle.spec_sorting.specs.Piece.{normal, updated}
use Rattle.spec_sorting.specs.Leads.{undone}
use Rattle.spec_sorting.proofs.DeltaLeads.{length_from, length-applied}
use Rattle.spec_sorting.specs.Source.{element_at}
use Rattle.spec_sorting.proofs.Spreads.{next_from}
use Rattle.gl_kernel.specs.Plans.{CanTell}
use Rattle.gl_arranged.specs.declared.changed.Ranked.{Ranked}
use Rattle.gl_sorted.specs.declared.leaving.Leaving.{Leaving}
use Rattle.gl_sorted.proofs.Merges.{updated_goes, can_update, drop_rest}
use Rattle.std.proofs.Common.{false}
use Rattle.gl_sorted.proofs.NextTellings.{value_here}
use Rattle.gl_sorted.proofs.merged.tell_updated.Goals as goal

pub old_value-old-requires : goal.old_value-old-requires
old_value-old-requires g c =
    let n = c.requires.next in
    let h = drop_rest c.args.gone.now c.args.told.now.gone n.old n.old_rest n.olds_are in
    c.requires.merge.old_sources c.args.told.now.gone (record { place = 0; source = 0; new = None; stays = false }) h.1

pub tell-requires : goal.tell-requires
tell-requires g c =
    let ys = g.S.Shelf.items c.args.input.now in
    let xs = undone c.args.d.now.pieces ys in
    let n = c.requires.next in
    let h = drop_rest c.args.gone.now c.args.told.now.gone n.old n.old_rest n.olds_are in
    let k = drop_rest c.args.came.now c.args.told.now.came n.new n.new_rest n.news_are in
    let old_is : c.in_ok-copy.field-0 ≡ element_at xs n.old.source = c.in_ok-copy.ensures ∙ (c.old_value-old.ensures xs c.requires.merge.delta.starts ∙ ap (λ (l : Leaving). element_at xs l.source) (h.2 _)) in
    let new_is : c.in_ok-copy-2.field-0 ≡ element_at ys n.new.source = c.in_ok-copy-2.ensures ∙ (value_here ys _ c.element-new.result.now c.element-new.ensures ∙ ap (λ (r : Ranked). element_at ys r.source) (k.2 _)) in
    subst (λ v. CanTell (updated v c.in_ok-copy-2.field-0 ∷ []) c.args.out.now.pieces) (sym old_is)
    (subst (λ w. CanTell (updated (element_at xs n.old.source) w ∷ []) c.args.out.now.pieces) (sym new_is) (can_update xs ys c.args.gone.now c.args.came.now c.args.out.now.pieces c.args.told.now c.requires.left n))

pub overflow_add-told-3 : goal.overflow_add-told-3
overflow_add-told-3 g c =
    let ys = g.S.Shelf.items c.args.input.now in
    let xs = undone c.args.d.now.pieces ys in
    let next = next_from c.args.told.now.olds (length xs) _ c.requires.left.left.aligned.old_left in
    let first = next.0 in
    let last = next.1 in
    omega (arith, first, last, length_from c.args.d.now.pieces xs c.requires.merge.delta.starts, c.old_len-olds.ensures.value, c.old_len-olds.ensures.few)

pub overflow_add-told-4 : goal.overflow_add-told-4
overflow_add-told-4 g c =
    let ys = g.S.Shelf.items c.args.input.now in
    let xs = undone c.args.d.now.pieces ys in
    let next = next_from c.args.told.now.news (length ys) _ c.requires.left.left.aligned.new_left in
    let first = next.0 in
    let last = next.1 in
    omega (arith, first, last, ap length c.requires.merge.delta.ends, length-applied c.args.d.now.pieces xs c.requires.merge.delta.starts, c.new_len-news.ensures.value, c.new_len-news.ensures.few)

pub returns-clause-ok : goal.returns-clause-ok
returns-clause-ok g c =
    let ys = g.S.Shelf.items c.args.input.now in
    let xs = undone c.args.d.now.pieces ys in
    let n = c.requires.next in
    let h = drop_rest c.args.gone.now c.args.told.now.gone n.old n.old_rest n.olds_are in
    let k = drop_rest c.args.came.now c.args.told.now.came n.new n.new_rest n.news_are in
    let old_is : c.in_ok-copy.field-0 ≡ element_at xs n.old.source = c.in_ok-copy.ensures ∙ (c.old_value-old.ensures xs c.requires.merge.delta.starts ∙ ap (λ (l : Leaving). element_at xs l.source) (h.2 _)) in
    let new_is : c.in_ok-copy-2.field-0 ≡ element_at ys n.new.source = c.in_ok-copy-2.ensures ∙ (value_here ys _ c.element-new.result.now c.element-new.ensures ∙ ap (λ (r : Ranked). element_at ys r.source) (k.2 _)) in
    updated_goes xs ys c.args.gone.now c.args.came.now c.args.out.now.pieces c.args.told.now c.requires.left n c.tell-2.new.out.pieces
    (c.in_ok-tell.ensures ∙ (ap (λ v. normal (c.args.out.now.pieces ++ updated v c.in_ok-copy-2.field-0 ∷ [])) old_is ∙ ap (λ w. normal (c.args.out.now.pieces ++ updated (element_at xs n.old.source) w ∷ [])) new_is))
