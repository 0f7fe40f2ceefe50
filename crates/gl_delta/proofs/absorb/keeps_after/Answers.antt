use Rattle.std.proofs.Common.{◌∙◌, ◌∷◌, ap}
use Rattle.spec_lists.specs.Cells.{keep, update, delete, insert}
use Rattle.spec_lists.specs.Changes.{after_changes}
use Rattle.gl_delta.specs.declared.cell.CellRef.{CellRef}
use Rattle.gl_delta.specs.Cells.{cell_ref, cells_rest}
use Rattle.gl_delta.specs.Pieces.{pieces}
use Rattle.gl_delta.proofs.Cursors.{keeps_from, keeps_none}
use Rattle.gl_delta.proofs.absorb.keeps_after.Goals as goal

pub returns-in-Some-Keep : goal.returns-in-Some-Keep
returns-in-Some-Keep c =
    let ps = after_changes c.args.changes (pieces c.args.store.now) in
    let rest = cells_rest c.next.new.self in
    keeps_from ps _ rest (keep c.in-Some-Keep.n) c.cells_from-cells.ensures (c.in-Some-Keep.ensures.steps ∙ ap (λ (k : CellRef). cell_ref k ∷ rest) c.in-Some-Keep.field-0-is)

pub returns-in-Some-Update : goal.returns-in-Some-Update
returns-in-Some-Update c =
    let ps = after_changes c.args.changes (pieces c.args.store.now) in
    let rest = cells_rest c.next.new.self in
    keeps_from ps _ rest (update c.in-Some-Update.field-0-0.now c.in-Some-Update.field-0-1.now) c.cells_from-cells.ensures (c.in-Some-Update.ensures.steps ∙ ap (λ (k : CellRef). cell_ref k ∷ rest) c.in-Some-Update.field-0-is)

pub returns-in-Some-Delete : goal.returns-in-Some-Delete
returns-in-Some-Delete c =
    let ps = after_changes c.args.changes (pieces c.args.store.now) in
    let rest = cells_rest c.next.new.self in
    keeps_from ps _ rest (delete c.in-Some-Delete.field-0-0.now) c.cells_from-cells.ensures (c.in-Some-Delete.ensures.steps ∙ ap (λ (k : CellRef). cell_ref k ∷ rest) c.in-Some-Delete.field-0-is)

pub returns-in-Some-Insert : goal.returns-in-Some-Insert
returns-in-Some-Insert c =
    let ps = after_changes c.args.changes (pieces c.args.store.now) in
    let rest = cells_rest c.next.new.self in
    keeps_from ps _ rest (insert c.in-Some-Insert.field-0-0.now) c.cells_from-cells.ensures (c.in-Some-Insert.ensures.steps ∙ ap (λ (k : CellRef). cell_ref k ∷ rest) c.in-Some-Insert.field-0-is)

pub returns-in-None : goal.returns-in-None
returns-in-None c = keeps_none (after_changes c.args.changes (pieces c.args.store.now)) _ c.cells_from-cells.ensures c.in-None.ensures.steps.0
