use Rattle.std.proofs.Common.{◌≡◌, ◌∙◌, ◌++◌, ◌+◌, map, ap, sym, arith}
use Rattle.spec_views.specs.Piece.{old_len, normal}
use Rattle.spec_views.specs.Cells.{pieces_in}
use Rattle.spec_views.proofs.Normal.{normal_is}
use Rattle.spec_views.proofs.DeltaChanges.{old_len-append}
use Rattle.spec_lang.specs.Func.{eval}
use Rattle.gl_delta.specs.Cells.{cell_ref, cells_rest}
use Rattle.gl_kernel.specs.Fates.{fate, edits_of}
use Rattle.gl_kernel.specs.Spread.{spread}
use Rattle.gl_kernel.proofs.Spreads.{spread-cells, told_more, edits_more}
use Rattle.gl_kernel.proofs.Made.{append_nothing}
use Rattle.gl_function.specs.Told.{told_results}
use Rattle.gl_function.proofs.Tellings.{told-append, can_tell}
use Rattle.gl_function.proofs.follow.follow.Goals as goal

pub loop-cell-init : goal.loop-cell-init
loop-cell-init c =
    let f = eval c.args.func.now in
    let vs = c.args.results.now.values in
    let left = spread (cells_rest c.cells-cells.result) in
    let all : left ≡ c.args.d.now.pieces = ap spread c.cells-cells.ensures.cells ∙ spread-cells c.args.d.now.pieces in
    let position = c.new-plan.result.position in
    record {
      told = ap (λ qs. normal (qs ++ told_results f vs position left)) c.new-plan.ensures.out
          ∙ (ap (λ i. normal (told_results f vs i left)) c.new-plan.ensures.position ∙ ap (λ qs. normal (told_results f vs 0 qs)) all);
      edits = ap (λ es. es ++ edits_of position (map (fate f) left)) c.new-plan.ensures.log
          ∙ (ap (λ i. edits_of i (map (fate f) left)) c.new-plan.ensures.position ∙ ap (λ qs. edits_of 0 (map (fate f) qs)) all);
      position = omega (arith, c.new-plan.ensures.position, ap old_len all, c.requires);
    }

pub step-requires-clause-within : goal.step-requires-clause-within
step-requires-clause-within c =
    let qs = pieces_in (cell_ref c.in-Some.cell) in
    let rest = spread (cells_rest c.next.new.self) in
    let split : spread (cells_rest c.loop-cell.cells) ≡ qs ++ rest = ap spread c.in-Some.ensures.steps in
    omega (arith, c.loop-cell.invariant.position, ap old_len split, old_len-append qs rest)

pub step-requires-clause-can : goal.step-requires-clause-can
step-requires-clause-can c =
    let f = eval c.args.func.now in
    let vs = c.args.results.now.values in
    let position = c.loop-cell.plan.position in
    let out = c.loop-cell.plan.out.pieces in
    let qs = pieces_in (cell_ref c.in-Some.cell) in
    let rest = spread (cells_rest c.next.new.self) in
    let split : spread (cells_rest c.loop-cell.cells) ≡ qs ++ rest = ap spread c.in-Some.ensures.steps in
    let left = ap (λ ps. normal (out ++ told_results f vs position ps)) (sym split) ∙ c.loop-cell.invariant.told in
    let whole = ap (λ ps. normal (out ++ ps)) (sym (told-append f vs position qs rest)) ∙ left in
    can_tell f vs c.args.d.now.pieces out (told_results f vs position qs) (told_results f vs (position + old_len qs) rest)
    (omega (arith, c.old_len-olds.ensures.value, c.old_len-olds.ensures.few)) (omega (arith, c.new_len-news.ensures.value, c.new_len-news.ensures.few)) whole

pub loop-cell-preserved : goal.loop-cell-preserved
loop-cell-preserved c =
    let f = eval c.args.func.now in
    let vs = c.args.results.now.values in
    let position = c.loop-cell.plan.position in
    let out = c.loop-cell.plan.out.pieces in
    let more = c.step.new.plan.out.pieces in
    let qs = pieces_in (cell_ref c.in-Some.cell) in
    let rest = spread (cells_rest c.next.new.self) in
    let split : spread (cells_rest c.loop-cell.cells) ≡ qs ++ rest = ap spread c.in-Some.ensures.steps in
    let left = ap (λ ps. normal (out ++ told_results f vs position ps)) (sym split) ∙ c.loop-cell.invariant.told in
    let whole = ap (λ ps. normal (out ++ ps)) (sym (told-append f vs position qs rest)) ∙ left in
    let all = normal (told_results f vs 0 c.args.d.now.pieces) in
    let edits = ap (λ ps. c.loop-cell.plan.log.items ++ edits_of position (map (fate f) ps)) (sym split) ∙ c.loop-cell.invariant.edits in
    let goes = c.in_ok-step.ensures in
    record {
      told = ap (λ i. normal (more ++ told_results f vs i rest)) goes.position_is
          ∙ told_more all out more (told_results f vs position qs) (told_results f vs (position + old_len qs) rest) whole goes.told_is;
      edits = edits_more f (edits_of 0 (map (fate f) c.args.d.now.pieces)) c.loop-cell.plan.log.items c.step.new.plan.log.items qs rest position c.step.new.plan.position
          edits goes.edits_are goes.position_is;
      position = omega (arith, c.loop-cell.invariant.position, ap old_len split, old_len-append qs rest, goes.position_is);
    }

pub returns-clause-told : goal.returns-clause-told
returns-clause-told c =
    let f = eval c.args.func.now in
    let vs = c.args.results.now.values in
    let position = c.loop-cell.plan.position in
    let out = c.loop-cell.plan.out.pieces in
    sym (normal_is out c.old_len-normal.ensures.normal)
    ∙ (ap normal (sym (append_nothing out))
    ∙ (ap (λ cs. normal (out ++ told_results f vs position (spread cs))) (sym c.in_default.ensures.steps.0) ∙ c.loop-cell.invariant.told))
