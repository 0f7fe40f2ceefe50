use Rattle.std.proofs.Common.{◌≡◌, ◌∙◌, ◌++◌, map, ap, subst, arith}
use Rattle.spec_sorting.specs.Piece.{inverted, old_len, new_len}
use Rattle.spec_sorting.specs.Cells.{pieces_in}
use Rattle.spec_sorting.specs.Sides.{olds}
use Rattle.spec_sorting.proofs.DeltaChanges.{old_len-append, new_len-append}
use Rattle.gl_delta.specs.Cells.{cell_ref, cells_rest}
use Rattle.gl_kernel.specs.Spread.{spread}
use Rattle.gl_kernel.proofs.Spreads.{spread-cells}
use Rattle.gl_arranged.specs.Changes.{changed_of}
use Rattle.gl_arranged.proofs.Notes.{Reads, reads_more}
use Rattle.gl_arranged.proofs.collected.collect.Goals as goal

pub loop-cell-init : goal.loop-cell-init
loop-cell-init c =
    let all : spread (cells_rest c.cells-cells.result) ≡ c.args.d.now.pieces = ap spread c.cells-cells.ensures.cells ∙ spread-cells c.args.d.now.pieces in
    record {
      reads = record {
        gone_is = ap (λ cs. cs ++ changed_of 0 (olds 0 (spread (cells_rest c.cells-cells.result)))) c.new.ensures.items ∙ ap (λ ps. changed_of 0 (olds 0 ps)) all;
        came_is = ap (λ cs. cs ++ changed_of 0 (olds 0 (map inverted (spread (cells_rest c.cells-cells.result))))) c.new-2.ensures.items ∙ ap (λ ps. changed_of 0 (olds 0 (map inverted ps))) all;
      };
      olds = omega (arith, ap old_len all);
      news = omega (arith, ap new_len all);
    }

pub note-requires-clause-olds : goal.note-requires-clause-olds
note-requires-clause-olds c =
    let qs = pieces_in (cell_ref c.in-Some.cell) in
    let rest = spread (cells_rest c.next.new.self) in
    let split : spread (cells_rest c.loop-cell.cells) ≡ qs ++ rest = ap spread c.in-Some.ensures.steps in
    omega (arith, c.loop-cell.invariant.olds, ap old_len split, old_len-append qs rest, c.old_len-olds.ensures.value, c.old_len-olds.ensures.few)

pub note-requires-clause-news : goal.note-requires-clause-news
note-requires-clause-news c =
    let qs = pieces_in (cell_ref c.in-Some.cell) in
    let rest = spread (cells_rest c.next.new.self) in
    let split : spread (cells_rest c.loop-cell.cells) ≡ qs ++ rest = ap spread c.in-Some.ensures.steps in
    omega (arith, c.loop-cell.invariant.news, ap new_len split, new_len-append qs rest, c.new_len-news.ensures.value, c.new_len-news.ensures.few)

pub loop-cell-preserved : goal.loop-cell-preserved
loop-cell-preserved c =
    let qs = pieces_in (cell_ref c.in-Some.cell) in
    let rest = spread (cells_rest c.next.new.self) in
    let split : spread (cells_rest c.loop-cell.cells) ≡ qs ++ rest = ap spread c.in-Some.ensures.steps in
    let gone = changed_of 0 (olds 0 c.args.d.now.pieces) in
    let came = changed_of 0 (olds 0 (map inverted c.args.d.now.pieces)) in
    let left = subst (Reads gone came c.loop-cell.found) split c.loop-cell.invariant.reads in
    let noted = c.in_ok-note.ensures in
    record {
      reads = reads_more gone came c.loop-cell.found c.note.new.found qs rest left noted;
      olds = omega (arith, c.loop-cell.invariant.olds, ap old_len split, old_len-append qs rest, noted.old_is);
      news = omega (arith, c.loop-cell.invariant.news, ap new_len split, new_len-append qs rest, noted.new_is);
    }
