use Rattle.std.proofs.Common.{◌∙◌, ◌++◌, map, ap, sym, arith}
use Rattle.spec_lists.specs.Piece.{old_len}
use Rattle.spec_lists.specs.Cells.{pieces_in}
use Rattle.spec_lists.proofs.Lengths.{old_len-identity}
use Rattle.gl_delta.specs.declared.cell.CellRef.{CellRef}
use Rattle.gl_delta.specs.Cells.{cell_ref}
use Rattle.gl_kernel.specs.Fates.{fate, edits_of}
use Rattle.gl_kernel.proofs.Spreads.{no_edits}
use Rattle.gl_kernel.proofs.Made.{append_nothing}
use Rattle.gl_source.specs.Kept.{itself}
use Rattle.gl_source.proofs.log.note.Goals as goal

pub overflow_add-result : goal.overflow_add-result
overflow_add-result c = omega (arith, c.requires, ap (λ (k : CellRef). old_len (pieces_in (cell_ref k))) c.in-Keep.is, old_len-identity c.in-Keep.n)

pub returns-in-Keep-clause-edits : goal.returns-in-Keep-clause-edits
returns-in-Keep-clause-edits c =
    let position = c.args.position in
    let log = c.args.log.now.items in
    let none = ap (λ (k : CellRef). edits_of position (map (fate itself) (pieces_in (cell_ref k)))) c.in-Keep.is ∙ no_edits itself c.in-Keep.n position in
    sym (ap (λ es. log ++ es) none ∙ append_nothing log)

pub returns-in-Keep-clause-position : goal.returns-in-Keep-clause-position
returns-in-Keep-clause-position c = omega (arith, ap (λ (k : CellRef). old_len (pieces_in (cell_ref k))) c.in-Keep.is, old_len-identity c.in-Keep.n)
