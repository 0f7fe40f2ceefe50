use Rattle.std.proofs.Common.{◌∙◌, ◌++◌, sym, ap, subst}
use Rattle.spec_sorting.specs.Piece.{normal, identity}
use Rattle.spec_sorting.specs.Leads.{undone}
use Rattle.spec_classes.specs.Slots.{kept_before}
use Rattle.spec_classes.specs.Told.{unique_piece}
use Rattle.gl_kernel.specs.Plans.{CanTell}
use Rattle.gl_unique.proofs.Steps.{can_keep, can_then, both_told}
use Rattle.gl_unique.proofs.told.tell_next.Goals as goal

pub tell-requires : goal.tell-requires
tell-requires g c =
    let d = c.args.d.now.pieces in
    let ys = g.S.Shelf.items c.args.input.now in
    let k = kept_before c.args.at.olds c.args.at.news c.args.slot in
    subst (λ n. CanTell (identity n) c.args.out.now.pieces) (sym c.kept_before-kept.ensures)
    (can_keep k (unique_piece (undone d ys) ys c.args.slot) c.args.out.now.pieces c.requires.can)

pub tell_slot-requires-clause-can : goal.tell_slot-requires-clause-can
tell_slot-requires-clause-can g c =
    let d = c.args.d.now.pieces in
    let ys = g.S.Shelf.items c.args.input.now in
    let k = kept_before c.args.at.olds c.args.at.news c.args.slot in
    can_then k (unique_piece (undone d ys) ys c.args.slot) c.args.out.now.pieces c.tell.new.out.pieces
    (c.in_ok-tell.ensures ∙ ap (λ n. normal (c.args.out.now.pieces ++ identity n)) c.kept_before-kept.ensures) c.requires.can

pub returns-clause-out : goal.returns-clause-out
returns-clause-out g c =
    let d = c.args.d.now.pieces in
    let ys = g.S.Shelf.items c.args.input.now in
    let k = kept_before c.args.at.olds c.args.at.news c.args.slot in
    both_told k (unique_piece (undone d ys) ys c.args.slot) c.args.out.now.pieces c.tell.new.out.pieces c.tell_slot.new.out.pieces
    (c.in_ok-tell.ensures ∙ ap (λ n. normal (c.args.out.now.pieces ++ identity n)) c.kept_before-kept.ensures) c.in_ok-tell_slot.ensures
