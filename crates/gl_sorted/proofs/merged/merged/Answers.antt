use Rattle.std.proofs.Common.{◌≡◌, ◌∙◌, ◌++◌, ◌-◌, length, ap, sym, subst, arith}
use Rattle.spec_sorting.specs.Piece.{normal, identity}
use Rattle.spec_sorting.specs.Leads.{undone}
use Rattle.spec_sorting.proofs.DeltaLeads.{length_from}
use Rattle.gl_kernel.specs.Plans.{CanTell}
use Rattle.gl_sorted.specs.Merging.{merged_from}
use Rattle.gl_sorted.proofs.Merges.{has_ended}
use Rattle.gl_sorted.proofs.merged.merged.Goals as goal

pub loop-told-init : goal.loop-told-init
loop-told-init g c =
    let ys = g.S.Shelf.items c.args.input.now in
    let xs = undone c.args.d.now.pieces ys in
    let whole = merged_from xs ys c.args.gone.now 0 c.args.gone.now 0 c.args.came.now in
    record {
      left = record { left = c.requires.left; can = subst (CanTell whole) (sym c.start-out.ensures) c.requires.can; gone_in = omega arith; came_in = omega arith };
      told = ap (λ ps. normal (ps ++ whole)) c.start-out.ensures;
    }

pub overflow_sub-olds : goal.overflow_sub-olds
overflow_sub-olds g c =
    let ys = g.S.Shelf.items c.args.input.now in
    let xs = undone c.args.d.now.pieces ys in
    let e = has_ended xs ys c.args.gone.now c.args.came.now c.loop-told.out.pieces c.loop-told.told c.loop-told.invariant.left c.if-told-gone.false c.if-told-came.false in
    omega (arith, e.within, length_from c.args.d.now.pieces xs c.requires.delta.starts, c.old_len-olds.ensures.value)

pub tell-requires : goal.tell-requires
tell-requires g c =
    let ys = g.S.Shelf.items c.args.input.now in
    let xs = undone c.args.d.now.pieces ys in
    let e = has_ended xs ys c.args.gone.now c.args.came.now c.loop-told.out.pieces c.loop-told.told c.loop-told.invariant.left c.if-told-gone.false c.if-told-came.false in
    let long : length xs ≡ c.old_len-olds.result = length_from c.args.d.now.pieces xs c.requires.delta.starts ∙ sym c.old_len-olds.ensures.value in
    subst (λ ps. CanTell ps c.loop-told.out.pieces) (e.rest ∙ ap (λ n. identity (n - c.loop-told.told.olds)) long) c.loop-told.invariant.left.can

pub returns : goal.returns
returns g c =
    let ys = g.S.Shelf.items c.args.input.now in
    let xs = undone c.args.d.now.pieces ys in
    let e = has_ended xs ys c.args.gone.now c.args.came.now c.loop-told.out.pieces c.loop-told.told c.loop-told.invariant.left c.if-told-gone.false c.if-told-came.false in
    let long : length xs ≡ c.old_len-olds.result = length_from c.args.d.now.pieces xs c.requires.delta.starts ∙ sym c.old_len-olds.ensures.value in
    c.in_ok-tell.ensures ∙ (ap (λ ps. normal (c.loop-told.out.pieces ++ ps)) (sym (e.rest ∙ ap (λ n. identity (n - c.loop-told.told.olds)) long)) ∙ c.loop-told.invariant.told)
