use Rattle.std.proofs.Common.{◌≡◌, ◌∙◌, ◌++◌, map, ap, sym, arith}
use Rattle.spec_lists.specs.Piece.{old_len}
use Rattle.spec_lists.specs.Cells.{pieces_in}
use Rattle.spec_lists.proofs.DeltaChanges.{old_len-append}
use Rattle.gl_delta.specs.Cells.{cell_ref, cells_rest}
use Rattle.gl_kernel.specs.Fates.{fate, edits_of}
use Rattle.gl_kernel.specs.Spread.{spread}
use Rattle.gl_kernel.proofs.Spreads.{spread-cells, edits_more}
use Rattle.gl_kernel.proofs.Made.{append_nothing}
use Rattle.gl_source.specs.Kept.{itself}
use Rattle.gl_source.proofs.log.log_of.Goals as goal

pub cells-init : goal.cells-init
cells-init c =
    let left = spread (cells_rest c.cells-cells.result) in
    let all : left ≡ c.args.d.now.pieces = ap spread c.cells-cells.ensures.cells ∙ spread-cells c.args.d.now.pieces in
    record {
      edits = ap (λ es. es ++ edits_of 0 (map (fate itself) left)) c.new-log.ensures.items ∙ ap (λ qs. edits_of 0 (map (fate itself) qs)) all;
      position = omega (arith, ap old_len all);
    }

pub note-requires : goal.note-requires
note-requires c =
    let qs = pieces_in (cell_ref c.in-Some.cell) in
    let rest = spread (cells_rest c.next.new.self) in
    let split : spread (cells_rest c.cells.cells) ≡ qs ++ rest = ap spread c.in-Some.ensures.steps in
    omega (arith, c.cells.invariant.position, ap old_len split, old_len-append qs rest, c.old_len-olds.ensures.value, c.old_len-olds.ensures.few)

pub cells-preserved : goal.cells-preserved
cells-preserved c =
    let qs = pieces_in (cell_ref c.in-Some.cell) in
    let rest = spread (cells_rest c.next.new.self) in
    let split : spread (cells_rest c.cells.cells) ≡ qs ++ rest = ap spread c.in-Some.ensures.steps in
    let position = c.cells.position in
    let log = c.cells.log.items in
    let edits = ap (λ ps. log ++ edits_of position (map (fate itself) ps)) (sym split) ∙ c.cells.invariant.edits in
    record {
      edits = edits_more itself (edits_of 0 (map (fate itself) c.args.d.now.pieces)) log c.note.new.log.items qs rest position c.in_ok-position.position
          edits c.in_ok-position.ensures.edits c.in_ok-position.ensures.position;
      position = omega (arith, c.cells.invariant.position, ap old_len split, old_len-append qs rest, c.in_ok-position.ensures.position);
    }

pub returns : goal.returns
returns c =
    let log = c.cells.log.items in
    sym (append_nothing log)
    ∙ (ap (λ cs. log ++ edits_of c.cells.position (map (fate itself) (spread cs))) (sym c.in_default.ensures.steps.0) ∙ c.cells.invariant.edits)
