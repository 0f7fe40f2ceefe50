use Rattle.std.proofs.Common.{◌≡◌, ◌∙◌, ◌∷◌, ap, arith}
use Rattle.spec_lists.specs.Cells.{update, delete}
use Rattle.gl_delta.specs.declared.cell.CellRef.{CellRef}
use Rattle.gl_delta.specs.Cells.{cell_ref, cells_rest}
use Rattle.gl_event.specs.Replay.{old_count}
use Rattle.gl_event.proofs.Cells.{updated_more, deleted_more}
use Rattle.gl_event.proofs.replaying.applied.Goals as goal

pub loop-cell-preserved-in-Update : goal.loop-cell-preserved-in-Update
loop-cell-preserved-in-Update c =
    let rest = cells_rest c.next.new.self in
    let is : cells_rest c.loop-cell.cells ≡ update c.in-Update.field-0.now c.in-Update.new.now ∷ rest = c.in-Some.ensures.steps ∙ ap (λ (k : CellRef). cell_ref k ∷ rest) c.in-Update.is in
    record {
      left = updated_more c.loop-cell.made c.add.new.made c.args.values.now _ c.loop-cell.from (cells_rest c.loop-cell.cells) rest _ _ c.loop-cell.invariant.left is c.in_ok-add-in-Update.ensures;
      within = omega (arith, ap old_count is, c.loop-cell.invariant.within);
    }

pub loop-cell-preserved-in-Delete : goal.loop-cell-preserved-in-Delete
loop-cell-preserved-in-Delete c =
    let rest = cells_rest c.next.new.self in
    let is : cells_rest c.loop-cell.cells ≡ delete c.in-Delete.field-0.now ∷ rest = c.in-Some.ensures.steps ∙ ap (λ (k : CellRef). cell_ref k ∷ rest) c.in-Delete.is in
    record {
      left = deleted_more c.loop-cell.made c.args.values.now _ c.loop-cell.from (cells_rest c.loop-cell.cells) rest _ c.loop-cell.invariant.left is;
      within = omega (arith, ap old_count is, c.loop-cell.invariant.within);
    }
