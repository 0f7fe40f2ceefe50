use Rattle.std.proofs.Common.{◌≡◌, ◌∙◌, ◌++◌, ◌+◌, ap, sym, arith}
use Rattle.spec_views.specs.Piece.{old_len, new_len, normal}
use Rattle.spec_views.specs.Cells.{pieces_in}
use Rattle.spec_views.proofs.Normal.{normal_is}
use Rattle.spec_views.proofs.DeltaChanges.{old_len-append, new_len-append}
use Rattle.gl_delta.specs.Cells.{cell_ref, cells_rest}
use Rattle.gl_kernel.specs.Spread.{spread}
use Rattle.gl_kernel.proofs.Spreads.{spread-cells, told_more}
use Rattle.gl_kernel.proofs.Made.{append_nothing}
use Rattle.gl_range.specs.Told.{told_in}
use Rattle.gl_range.proofs.Tellings.{told-append, can_tell}
use Rattle.gl_range.proofs.follow.follow.Goals as goal

pub loop-cell-init : goal.loop-cell-init
loop-cell-init g c =
    let ys = g.S.Shelf.items c.args.input.now in
    let left = spread (cells_rest c.cells-cells.result) in
    let all : left ≡ c.args.d.now.pieces = ap spread c.cells-cells.ensures.cells ∙ spread-cells c.args.d.now.pieces in
    record {
      told = ap (λ qs. normal (qs ++ told_in ys c.args.slices 0 0 left)) c.start.ensures ∙ ap (λ qs. normal (told_in ys c.args.slices 0 0 qs)) all;
      olds = omega (arith, ap old_len all);
      news = omega (arith, ap new_len all);
    }

pub step-requires-clause-news : goal.step-requires-clause-news
step-requires-clause-news g c =
    let qs = pieces_in (cell_ref c.in-Some.cell) in
    let rest = spread (cells_rest c.next.new.self) in
    let split : spread (cells_rest c.loop-cell.cells) ≡ qs ++ rest = ap spread c.in-Some.ensures.steps in
    omega (arith, c.loop-cell.invariant.news, ap new_len split, new_len-append qs rest, c.requires)

pub step-requires-clause-olds : goal.step-requires-clause-olds
step-requires-clause-olds g c =
    let qs = pieces_in (cell_ref c.in-Some.cell) in
    let rest = spread (cells_rest c.next.new.self) in
    let split : spread (cells_rest c.loop-cell.cells) ≡ qs ++ rest = ap spread c.in-Some.ensures.steps in
    omega (arith, c.loop-cell.invariant.olds, ap old_len split, old_len-append qs rest, c.old_len-olds.ensures.value, c.old_len-olds.ensures.few)

pub step-requires-clause-can : goal.step-requires-clause-can
step-requires-clause-can g c =
    let ys = g.S.Shelf.items c.args.input.now in
    let slices = c.args.slices in
    let i = c.loop-cell.walk.old_position in
    let j = c.loop-cell.walk.new_position in
    let out = c.loop-cell.walk.out.pieces in
    let qs = pieces_in (cell_ref c.in-Some.cell) in
    let rest = spread (cells_rest c.next.new.self) in
    let split : spread (cells_rest c.loop-cell.cells) ≡ qs ++ rest = ap spread c.in-Some.ensures.steps in
    let left = ap (λ ps. normal (out ++ told_in ys slices i j ps)) (sym split) ∙ c.loop-cell.invariant.told in
    let whole = ap (λ ps. normal (out ++ ps)) (sym (told-append ys slices i j qs rest)) ∙ left in
    can_tell ys slices c.args.d.now.pieces out (told_in ys slices i j qs) (told_in ys slices (i + old_len qs) (j + new_len qs) rest)
    (omega (arith, c.old_len-olds.ensures.value, c.old_len-olds.ensures.few)) (omega (arith, c.new_len-news.ensures.value, c.new_len-news.ensures.few)) whole

pub loop-cell-preserved : goal.loop-cell-preserved
loop-cell-preserved g c =
    let ys = g.S.Shelf.items c.args.input.now in
    let slices = c.args.slices in
    let i = c.loop-cell.walk.old_position in
    let j = c.loop-cell.walk.new_position in
    let out = c.loop-cell.walk.out.pieces in
    let more = c.step.new.walk.out.pieces in
    let qs = pieces_in (cell_ref c.in-Some.cell) in
    let rest = spread (cells_rest c.next.new.self) in
    let split : spread (cells_rest c.loop-cell.cells) ≡ qs ++ rest = ap spread c.in-Some.ensures.steps in
    let left = ap (λ ps. normal (out ++ told_in ys slices i j ps)) (sym split) ∙ c.loop-cell.invariant.told in
    let whole = ap (λ ps. normal (out ++ ps)) (sym (told-append ys slices i j qs rest)) ∙ left in
    let all = normal (told_in ys slices 0 0 c.args.d.now.pieces) in
    let goes = c.in_ok-step.ensures in
    record {
      told = ap (λ k. normal (more ++ told_in ys slices k c.step.new.walk.new_position rest)) goes.old_is
          ∙ (ap (λ k. normal (more ++ told_in ys slices (i + old_len qs) k rest)) goes.new_is
          ∙ told_more all out more (told_in ys slices i j qs) (told_in ys slices (i + old_len qs) (j + new_len qs) rest) whole goes.told_is);
      olds = omega (arith, c.loop-cell.invariant.olds, ap old_len split, old_len-append qs rest, goes.old_is);
      news = omega (arith, c.loop-cell.invariant.news, ap new_len split, new_len-append qs rest, goes.new_is);
    }

pub returns : goal.returns
returns g c =
    let ys = g.S.Shelf.items c.args.input.now in
    let i = c.loop-cell.walk.old_position in
    let j = c.loop-cell.walk.new_position in
    let out = c.loop-cell.walk.out.pieces in
    sym (normal_is out c.old_len-normal.ensures.normal)
    ∙ (ap normal (sym (append_nothing out))
    ∙ (ap (λ cs. normal (out ++ told_in ys c.args.slices i j (spread cs))) (sym c.in_default.ensures.steps.0) ∙ c.loop-cell.invariant.told))
