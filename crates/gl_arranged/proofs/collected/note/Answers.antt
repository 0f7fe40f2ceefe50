use Rattle.std.proofs.Common.{refl, ap, arith}
use Rattle.spec_sorting.specs.Piece.{old_len, new_len}
use Rattle.spec_sorting.specs.Cells.{pieces_in}
use Rattle.spec_sorting.proofs.Lengths.{old_len-identity, new_len-identity}
use Rattle.gl_delta.specs.declared.cell.CellRef.{CellRef}
use Rattle.gl_delta.specs.Cells.{cell_ref}
use Rattle.gl_arranged.proofs.Notes.{kept_noted}
use Rattle.gl_arranged.proofs.collected.note.Goals as goal

pub overflow_add-found : goal.overflow_add-found
overflow_add-found c = omega (arith, c.requires.olds, ap (λ (k : CellRef). old_len (pieces_in (cell_ref k))) c.in-Keep.is, old_len-identity c.in-Keep.n)

pub overflow_add-found-in-Keep : goal.overflow_add-found-in-Keep
overflow_add-found-in-Keep c = omega (arith, c.requires.news, ap (λ (k : CellRef). new_len (pieces_in (cell_ref k))) c.in-Keep.is, new_len-identity c.in-Keep.n)

pub returns-in-Keep : goal.returns-in-Keep
returns-in-Keep c = kept_noted c.in-Keep.n (pieces_in (cell_ref c.args.cell)) c.args.found.now _ (ap (λ (k : CellRef). pieces_in (cell_ref k)) c.in-Keep.is) refl refl refl refl
