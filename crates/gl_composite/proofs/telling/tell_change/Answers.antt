use Rattle.std.proofs.Common.{◌≡◌, ◌∙◌, ◌++◌, ap, sym, subst}
use Rattle.gl_joined.specs.Piece.{normal}
use Rattle.gl_joined.specs.Cells.{Cell, pieces_in}
use Rattle.gl_joined.proofs.Normal.{normal_is}
use Rattle.gl_delta.specs.Cells.{cell_ref, cells_rest}
use Rattle.gl_kernel.specs.Plans.{CanTell}
use Rattle.gl_kernel.specs.Spread.{spread}
use Rattle.gl_kernel.proofs.Spreads.{spread-cells, told_more, can_tell_part}
use Rattle.gl_kernel.proofs.Made.{append_nothing}
use Rattle.gl_composite.proofs.telling.tell_change.Goals as goal

pub cells-init : goal.cells-init
cells-init c =
    ap (λ qs. normal (c.args.out.now.pieces ++ qs)) (ap spread c.cells-cells.ensures.cells ∙ spread-cells c.args.d.now.pieces)

pub tell-requires : goal.tell-requires
tell-requires c =
    let out = c.cells.out.pieces in
    let qs = pieces_in (cell_ref c.in-Some.cell) in
    let rest = spread (cells_rest c.next.new.self) in
    let split : spread (cells_rest c.cells.cells) ≡ qs ++ rest = ap spread c.in-Some.ensures.steps in
    let Can : Cell → Type 0 = λ k. CanTell (pieces_in k) out in
    subst Can (sym c.in_ok-copied.ensures)
    (can_tell_part c.args.out.now.pieces out c.args.d.now.pieces qs rest c.requires (ap (λ ps. normal (out ++ ps)) (sym split) ∙ c.cells.invariant))

pub cells-preserved : goal.cells-preserved
cells-preserved c =
    let out = c.cells.out.pieces in
    let qs = pieces_in (cell_ref c.in-Some.cell) in
    let rest = spread (cells_rest c.next.new.self) in
    let split : spread (cells_rest c.cells.cells) ≡ qs ++ rest = ap spread c.in-Some.ensures.steps in
    told_more (normal (c.args.out.now.pieces ++ c.args.d.now.pieces)) out c.tell.new.out.pieces qs rest
    (ap (λ ps. normal (out ++ ps)) (sym split) ∙ c.cells.invariant) (c.in_ok-tell.ensures ∙ ap (λ k. normal (out ++ pieces_in k)) c.in_ok-copied.ensures)

pub returns : goal.returns
returns c =
    let out = c.cells.out.pieces in
    sym (normal_is out c.old_len-normal.ensures.normal)
    ∙ (ap normal (sym (append_nothing out))
    ∙ (ap (λ cs. normal (out ++ spread cs)) (sym c.in_default.ensures.steps.0) ∙ c.cells.invariant))
