use Rattle.std.proofs.Common.{◌≡◌, ◌∙◌, ◌++◌, [], ◌∷◌, None, length, ap, sym, subst, arith}
use Rattle.spec_sorting.specs.Piece.{normal, deleted}
use Rattle.spec_sorting.specs.Leads.{undone}
use Rattle.spec_sorting.proofs.DeltaLeads.{length_from}
use Rattle.spec_sorting.specs.Source.{element_at}
use Rattle.spec_sorting.proofs.Spreads.{next_from}
use Rattle.gl_kernel.specs.Plans.{CanTell}
use Rattle.gl_sorted.specs.declared.leaving.Leaving.{Leaving}
use Rattle.gl_sorted.proofs.Merges.{deleted_goes, can_delete, drop_rest}
use Rattle.std.proofs.Common.{false}
use Rattle.gl_sorted.proofs.merged.tell_deleted.Goals as goal

pub old_value-value-requires : goal.old_value-value-requires
old_value-value-requires g c =
    let n = c.requires.next in
    let h = drop_rest c.args.gone.now c.args.told.now.gone n.one n.rest n.are in
    c.requires.merge.old_sources c.args.told.now.gone (record { place = 0; source = 0; new = None; stays = false }) h.1

pub tell-requires : goal.tell-requires
tell-requires g c =
    let ys = g.S.Shelf.items c.args.input.now in
    let xs = undone c.args.d.now.pieces ys in
    let n = c.requires.next in
    let h = drop_rest c.args.gone.now c.args.told.now.gone n.one n.rest n.are in
    let value : c.in_ok-copy.field-0 ≡ element_at xs n.one.source = c.in_ok-copy.ensures ∙ (c.old_value-value.ensures xs c.requires.merge.delta.starts ∙ ap (λ (l : Leaving). element_at xs l.source) (h.2 _)) in
    subst (λ v. CanTell (deleted v ∷ []) c.args.out.now.pieces) (sym value) (can_delete xs ys c.args.gone.now c.args.came.now c.args.out.now.pieces c.args.told.now c.requires.left n)

pub overflow_add-told-2 : goal.overflow_add-told-2
overflow_add-told-2 g c =
    let ys = g.S.Shelf.items c.args.input.now in
    let xs = undone c.args.d.now.pieces ys in
    let next = next_from c.args.told.now.olds (length xs) _ c.requires.left.left.aligned.old_left in
    let first = next.0 in
    let last = next.1 in
    omega (arith, first, last, length_from c.args.d.now.pieces xs c.requires.merge.delta.starts, c.old_len-olds.ensures.value, c.old_len-olds.ensures.few)

pub returns-clause-ok : goal.returns-clause-ok
returns-clause-ok g c =
    let ys = g.S.Shelf.items c.args.input.now in
    let xs = undone c.args.d.now.pieces ys in
    let n = c.requires.next in
    let h = drop_rest c.args.gone.now c.args.told.now.gone n.one n.rest n.are in
    let value : c.in_ok-copy.field-0 ≡ element_at xs n.one.source = c.in_ok-copy.ensures ∙ (c.old_value-value.ensures xs c.requires.merge.delta.starts ∙ ap (λ (l : Leaving). element_at xs l.source) (h.2 _)) in
    deleted_goes xs ys c.args.gone.now c.args.came.now c.args.out.now.pieces c.args.told.now c.requires.left n c.tell.new.out.pieces
    (c.in_ok-tell.ensures ∙ ap (λ v. normal (c.args.out.now.pieces ++ deleted v ∷ [])) value)
