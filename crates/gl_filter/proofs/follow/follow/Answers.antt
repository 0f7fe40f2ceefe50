use Rattle.std.proofs.Common.{◌≡◌, ◌∙◌, ◌++◌, ◌+◌, ◌≤◌, length, drop, ap, sym, arith}
use Rattle.spec_views.specs.Piece.{old_len, normal}
use Rattle.spec_views.specs.Cells.{pieces_in}
use Rattle.spec_views.proofs.Normal.{normal_is}
use Rattle.spec_views.proofs.DeltaChanges.{old_len-append}
use Rattle.spec_views.specs.Matcher.{accepts}
use Rattle.gl_delta.specs.Cells.{cell_ref, cells_rest}
use Rattle.gl_kernel.specs.Fates.{edits_of}
use Rattle.gl_kernel.specs.Spread.{spread}
use Rattle.gl_kernel.proofs.Spreads.{spread-cells, told_more}
use Rattle.gl_kernel.proofs.Made.{append_nothing}
use Rattle.gl_filter.specs.Told.{told_marks, fates, asked}
use Rattle.gl_filter.proofs.Tellings.{asked-append, whole_split, can_tell}
use Rattle.gl_filter.proofs.ShownMarks.{fates_more}
use Rattle.gl_filter.proofs.follow.follow.Goals as goal

pub loop-cell-init : goal.loop-cell-init
loop-cell-init g c =
    let acc = accepts c.args.matcher.now in
    let shown = c.args.marks.now.shown in
    let left = spread (cells_rest c.cells-cells.result) in
    let all : left ≡ c.args.d.now.pieces = ap spread c.cells-cells.ensures.cells ∙ spread-cells c.args.d.now.pieces in
    let position = c.new-plan.result.position in
    record {
      told = ap (λ qs. normal (qs ++ told_marks acc (drop position shown) left)) c.new-plan.ensures.out
          ∙ (ap (λ i. normal (told_marks acc (drop i shown) left)) c.new-plan.ensures.position ∙ ap (λ qs. normal (told_marks acc shown qs)) all);
      edits = ap (λ es. es ++ edits_of position (fates acc (drop position shown) left)) c.new-plan.ensures.log
          ∙ (ap (λ i. edits_of i (fates acc (drop i shown) left)) c.new-plan.ensures.position ∙ ap (λ qs. edits_of 0 (fates acc shown qs)) all);
      position = omega (arith, c.new-plan.ensures.position, ap old_len all, c.requires);
      counted = omega (arith, ap asked all);
    }

pub step-requires-clause-within : goal.step-requires-clause-within
step-requires-clause-within g c =
    let qs = pieces_in (cell_ref c.in-Some.cell) in
    let rest = spread (cells_rest c.next.new.self) in
    let split : spread (cells_rest c.loop-cell.cells) ≡ qs ++ rest = ap spread c.in-Some.ensures.steps in
    omega (arith, c.loop-cell.invariant.position, ap old_len split, old_len-append qs rest)

pub step-requires-clause-can : goal.step-requires-clause-can
step-requires-clause-can g c =
    let acc = accepts c.args.matcher.now in
    let shown = c.args.marks.now.shown in
    let position = c.loop-cell.plan.position in
    let out = c.loop-cell.plan.out.pieces in
    let qs = pieces_in (cell_ref c.in-Some.cell) in
    let rest = spread (cells_rest c.next.new.self) in
    let split : spread (cells_rest c.loop-cell.cells) ≡ qs ++ rest = ap spread c.in-Some.ensures.steps in
    let within : position + old_len qs ≤ length shown = omega (arith, c.loop-cell.invariant.position, ap old_len split, old_len-append qs rest) in
    let left = ap (λ ps. normal (out ++ told_marks acc (drop position shown) ps)) (sym split) ∙ c.loop-cell.invariant.told in
    let whole = whole_split acc shown position qs rest out (normal (told_marks acc shown c.args.d.now.pieces)) within left in
    can_tell acc shown c.args.d.now.pieces out (told_marks acc (drop position shown) qs) (told_marks acc (drop (position + old_len qs) shown) rest)
    (omega (arith, c.old_len-olds.ensures.value, c.old_len-olds.ensures.few)) (omega (arith, c.new_len-news.ensures.value, c.new_len-news.ensures.few)) whole

pub loop-cell-preserved : goal.loop-cell-preserved
loop-cell-preserved g c =
    let acc = accepts c.args.matcher.now in
    let shown = c.args.marks.now.shown in
    let position = c.loop-cell.plan.position in
    let out = c.loop-cell.plan.out.pieces in
    let more = c.step.new.plan.out.pieces in
    let qs = pieces_in (cell_ref c.in-Some.cell) in
    let rest = spread (cells_rest c.next.new.self) in
    let split : spread (cells_rest c.loop-cell.cells) ≡ qs ++ rest = ap spread c.in-Some.ensures.steps in
    let within : position + old_len qs ≤ length shown = omega (arith, c.loop-cell.invariant.position, ap old_len split, old_len-append qs rest) in
    let left = ap (λ ps. normal (out ++ told_marks acc (drop position shown) ps)) (sym split) ∙ c.loop-cell.invariant.told in
    let all = normal (told_marks acc shown c.args.d.now.pieces) in
    let whole = whole_split acc shown position qs rest out all within left in
    let edits = ap (λ ps. c.loop-cell.plan.log.items ++ edits_of position (fates acc (drop position shown) ps)) (sym split) ∙ c.loop-cell.invariant.edits in
    record {
      told = ap (λ i. normal (more ++ told_marks acc (drop i shown) rest)) c.in_ok-step.ensures.ok.position_is
          ∙ told_more all out more (told_marks acc (drop position shown) qs) (told_marks acc (drop (position + old_len qs) shown) rest) whole c.in_ok-step.ensures.ok.told_is;
      edits = fates_more acc shown (edits_of 0 (fates acc shown c.args.d.now.pieces)) c.loop-cell.plan.log.items c.step.new.plan.log.items qs rest position c.step.new.plan.position
          within edits c.in_ok-step.ensures.ok.edits_are c.in_ok-step.ensures.ok.position_is;
      position = omega (arith, c.loop-cell.invariant.position, ap old_len split, old_len-append qs rest, c.in_ok-step.ensures.ok.position_is);
      counted = omega (arith, c.loop-cell.invariant.counted, ap asked split, asked-append qs rest, c.in_ok-step.ensures.counted);
    }

pub returns-in_err-step-clause-counted : goal.returns-in_err-step-clause-counted
returns-in_err-step-clause-counted g c =
    let qs = pieces_in (cell_ref c.in-Some.cell) in
    let rest = spread (cells_rest c.next.new.self) in
    let split : spread (cells_rest c.loop-cell.cells) ≡ qs ++ rest = ap spread c.in-Some.ensures.steps in
    omega (arith, c.loop-cell.invariant.counted, ap asked split, asked-append qs rest, c.in_err-step.ensures.counted)

pub returns-clause-told : goal.returns-clause-told
returns-clause-told g c =
    let acc = accepts c.args.matcher.now in
    let shown = c.args.marks.now.shown in
    let position = c.loop-cell.plan.position in
    let out = c.loop-cell.plan.out.pieces in
    sym (normal_is out c.old_len-normal.ensures.normal)
    ∙ (ap normal (sym (append_nothing out))
    ∙ (ap (λ cs. normal (out ++ told_marks acc (drop position shown) (spread cs))) (sym c.in_default.ensures.steps.0) ∙ c.loop-cell.invariant.told))
