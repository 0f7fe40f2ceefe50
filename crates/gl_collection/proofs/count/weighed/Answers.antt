use Rattle.std.proofs.Common.{ap, arith}
use Rattle.gl_joined.specs.Cells.{pieces_in}
use Rattle.spec_lang.specs.Kids.{kids}
use Rattle.gl_delta.specs.Cells.{cell_ref}
use Rattle.gl_delta.specs.declared.cell.CellRef.{CellRef}
use Rattle.gl_collection.specs.Told.{gained, lost}
use Rattle.gl_collection.proofs.Balances.{keeps_gained, keeps_lost}
use Rattle.gl_collection.proofs.count.weighed.Goals as goal

pub returns-in-Keep-clause-gained : goal.returns-in-Keep-clause-gained
returns-in-Keep-clause-gained c =
    let f = kids c.args.model.now in
    omega (arith, ap (λ (k : CellRef). gained f (pieces_in (cell_ref k))) c.in-Keep.is, keeps_gained f c.in-Keep.field-0)

pub returns-in-Keep-clause-lost : goal.returns-in-Keep-clause-lost
returns-in-Keep-clause-lost c =
    let f = kids c.args.model.now in
    omega (arith, ap (λ (k : CellRef). lost f (pieces_in (cell_ref k))) c.in-Keep.is, keeps_lost f c.in-Keep.field-0)
