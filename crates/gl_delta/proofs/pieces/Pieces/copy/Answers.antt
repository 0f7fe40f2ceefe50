use Rattle.std.proofs.Common.{◌≡◌, ◌∙◌, ◌++◌, length, ap, sym, arith, append_assoc, rules}
use Rattle.std.proofs.lemmas.List.{append-nil, length-append}
use Rattle.spec_lists.specs.Cells.{pieces_in}
use Rattle.gl_delta.specs.Cells.{cells_rest, cell_ref}
use Rattle.gl_delta.specs.declared.cells.Cells.{Cells}
use Rattle.gl_delta.specs.Pieces.{pieces}
use Rattle.gl_delta.proofs.CellRuns.{pieces_of_cells, pieces_again}
use Rattle.gl_delta.proofs.pieces.Pieces.copy.Goals as goal

pub copies-init : goal.copies-init
copies-init c =
    let none = c.reserve.ensures.pieces ∙ c.none-own.ensures in
    let same : c.into_iter-cell-iterator.result ≡ c.cells-cell-items.result = search rules in
    ap (λ ps. ps ++ pieces_of_cells (cells_rest c.into_iter-cell-iterator.result)) none
    ∙ (ap (λ (s : Cells). pieces_of_cells (cells_rest s)) same ∙ (ap pieces_of_cells c.cells-cell-items.ensures ∙ pieces_again (pieces c.args.self.now)))

pub append_copy-requires : goal.append_copy-requires
append_copy-requires c =
    let own = pieces c.copies.own in
    let rest = cells_rest c.next.new.self in
    let whole : own ++ (pieces_in (cell_ref c.in-Some.cell) ++ pieces_of_cells rest) ≡ pieces c.args.self.now = ap (λ cs. own ++ pieces_of_cells cs) (sym c.in-Some.ensures.steps) ∙ c.copies.invariant in
    omega (arith, c.requires, ap length whole, length-append own (pieces_in (cell_ref c.in-Some.cell) ++ pieces_of_cells rest), length-append (pieces_in (cell_ref c.in-Some.cell)) (pieces_of_cells rest))

pub copies-preserved : goal.copies-preserved
copies-preserved c =
    let own = pieces c.copies.own in
    let rest = cells_rest c.next.new.self in
    ap (λ ps. ps ++ pieces_of_cells rest) c.in_ok-append_copy.ensures
    ∙ (append_assoc own (pieces_in (cell_ref c.in-Some.cell)) (pieces_of_cells rest)
    ∙ (ap (λ cs. own ++ pieces_of_cells cs) (sym c.in-Some.ensures.steps) ∙ c.copies.invariant))

pub returns : goal.returns
returns c =
    let own = pieces c.copies.own in
    sym (append-nil own) ∙ (ap (λ cs. own ++ pieces_of_cells cs) (sym c.in-None.ensures.steps.0) ∙ c.copies.invariant)
