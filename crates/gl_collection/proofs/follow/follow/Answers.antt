use Rattle.std.proofs.Common.{◌≡◌, ◌∙◌, ◌++◌, ◌+◌, drop, map, refl, ap, sym, arith}
use Rattle.gl_joined.specs.Piece.{old_len, normal}
use Rattle.gl_joined.specs.Cells.{pieces_in}
use Rattle.gl_joined.proofs.Normal.{normal_is}
use Rattle.gl_joined.proofs.DeltaChanges.{old_len-append}
use Rattle.spec_lang.specs.Kids.{kids}
use Rattle.gl_delta.specs.Cells.{cell_ref, cells_rest}
use Rattle.gl_kernel.specs.Fates.{fate, edits_of}
use Rattle.gl_kernel.specs.Spread.{spread}
use Rattle.gl_kernel.proofs.Spreads.{spread-cells, told_more, edits_more, can_tell_whole}
use Rattle.gl_kernel.proofs.Made.{append_nothing}
use Rattle.gl_collection.specs.Told.{child_len, told_children}
use Rattle.gl_collection.proofs.Told.{told_split}
use Rattle.gl_collection.proofs.follow.follow.Goals as goal

pub cells-init : goal.cells-init
cells-init c =
    let f = kids c.args.model.now in
    let lens = c.args.lens.now.lens in
    let left = spread (cells_rest c.cells-cells.result) in
    let all : left ≡ c.args.d.now.pieces = ap spread c.cells-cells.ensures.cells ∙ spread-cells c.args.d.now.pieces in
    let position = c.new-plan.result.position in
    record {
      told = ap (λ qs. normal (qs ++ told_children f (drop position lens) left)) c.new-plan.ensures.out
          ∙ (ap (λ i. normal (told_children f (drop i lens) left)) c.new-plan.ensures.position ∙ ap (λ qs. normal (told_children f lens qs)) all);
      edits = ap (λ es. es ++ edits_of position (map (fate (child_len f)) left)) c.new-plan.ensures.log
          ∙ (ap (λ i. edits_of i (map (fate (child_len f)) left)) c.new-plan.ensures.position ∙ ap (λ qs. edits_of 0 (map (fate (child_len f)) qs)) all);
      position = omega (arith, c.new-plan.ensures.position, ap old_len all, c.requires.olds);
    }

pub step-requires-clause-within : goal.step-requires-clause-within
step-requires-clause-within c =
    let qs = pieces_in (cell_ref c.in-Some.cell) in
    let rest = spread (cells_rest c.next.new.self) in
    let split : spread (cells_rest c.cells.cells) ≡ qs ++ rest = ap spread c.in-Some.ensures.steps in
    omega (arith, c.cells.invariant.position, ap old_len split, old_len-append qs rest)

pub step-requires-clause-few : goal.step-requires-clause-few
step-requires-clause-few c = omega (arith, c.requires.olds, c.old_len-olds.ensures.value, c.old_len-olds.ensures.few)

pub step-requires-clause-can : goal.step-requires-clause-can
step-requires-clause-can c =
    let f = kids c.args.model.now in
    let lens = c.args.lens.now.lens in
    let position = c.cells.plan.position in
    let out = c.cells.plan.out.pieces in
    let qs = pieces_in (cell_ref c.in-Some.cell) in
    let rest = spread (cells_rest c.next.new.self) in
    let split : spread (cells_rest c.cells.cells) ≡ qs ++ rest = ap spread c.in-Some.ensures.steps in
    let left = ap (λ ps. normal (out ++ told_children f (drop position lens) ps)) (sym split) ∙ c.cells.invariant.told in
    let more = told_split f qs rest lens position (position + old_len qs) refl in
    can_tell_whole (told_children f lens c.args.d.now.pieces) out (told_children f (drop position lens) qs) (told_children f (drop (position + old_len qs) lens) rest)
    c.requires.old_children c.requires.new_children (ap (λ ps. normal (out ++ ps)) (sym more) ∙ left)

pub cells-preserved : goal.cells-preserved
cells-preserved c =
    let f = kids c.args.model.now in
    let lens = c.args.lens.now.lens in
    let position = c.cells.plan.position in
    let out = c.cells.plan.out.pieces in
    let after = c.step.new.plan in
    let qs = pieces_in (cell_ref c.in-Some.cell) in
    let rest = spread (cells_rest c.next.new.self) in
    let split : spread (cells_rest c.cells.cells) ≡ qs ++ rest = ap spread c.in-Some.ensures.steps in
    let left = ap (λ ps. normal (out ++ told_children f (drop position lens) ps)) (sym split) ∙ c.cells.invariant.told in
    let edits = ap (λ ps. c.cells.plan.log.items ++ edits_of position (map (fate (child_len f)) ps)) (sym split) ∙ c.cells.invariant.edits in
    let goes = c.in_ok-step.ensures in
    let more = told_split f qs rest lens position after.position goes.position_is in
    record {
      told = told_more (normal (told_children f lens c.args.d.now.pieces)) out after.out.pieces (told_children f (drop position lens) qs) (told_children f (drop after.position lens) rest)
          (ap (λ ps. normal (out ++ ps)) (sym more) ∙ left) goes.told_is;
      edits = edits_more (child_len f) (edits_of 0 (map (fate (child_len f)) c.args.d.now.pieces)) c.cells.plan.log.items after.log.items qs rest position after.position edits goes.edits_are goes.position_is;
      position = omega (arith, c.cells.invariant.position, ap old_len split, old_len-append qs rest, goes.position_is);
    }

pub returns-clause-told : goal.returns-clause-told
returns-clause-told c =
    let f = kids c.args.model.now in
    let position = c.cells.plan.position in
    let out = c.cells.plan.out.pieces in
    sym (normal_is out c.old_len-normal.ensures.normal)
    ∙ (ap normal (sym (append_nothing out))
    ∙ (ap (λ cs. normal (out ++ told_children f (drop position c.args.lens.now.lens) (spread cs))) (sym c.in_default.ensures.steps.0) ∙ c.cells.invariant.told))
