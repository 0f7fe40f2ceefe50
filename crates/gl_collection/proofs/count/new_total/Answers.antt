use Rattle.std.proofs.Common.{◌≡◌, ◌∙◌, ◌++◌, ap, arith}
use Rattle.gl_joined.specs.Piece.{new_len}
use Rattle.gl_joined.specs.Cells.{pieces_in}
use Rattle.gl_joined.proofs.DeltaChanges.{new_len-append}
use Rattle.spec_lang.specs.Kids.{kids}
use Rattle.gl_delta.specs.Cells.{cell_ref, cells_rest}
use Rattle.gl_kernel.specs.Spread.{spread}
use Rattle.gl_kernel.proofs.Spreads.{spread-cells}
use Rattle.gl_collection.specs.Told.{gained, lost}
use Rattle.gl_collection.proofs.Balances.{gained-append, lost-append}
use Rattle.gl_collection.proofs.count.new_total.Goals as goal

pub cells-init : goal.cells-init
cells-init c =
    let f = kids c.args.model.now in
    let all : spread (cells_rest c.cells-cells.result) ≡ c.args.d.now.pieces = ap spread c.cells-cells.ensures.cells ∙ spread-cells c.args.d.now.pieces in
    record {
      gained = omega (arith, ap (gained f) all);
      lost = omega (arith, ap (lost f) all);
      few = omega (arith, ap new_len all);
    }

pub weighed-balance-requires-clause-lost : goal.weighed-balance-requires-clause-lost
weighed-balance-requires-clause-lost c =
    let f = kids c.args.model.now in
    let qs = pieces_in (cell_ref c.in-Some.cell) in
    let rest = spread (cells_rest c.next.new.self) in
    let split : spread (cells_rest c.cells.cells) ≡ qs ++ rest = ap spread c.in-Some.ensures.steps in
    omega (arith, c.cells.invariant.lost, ap (lost f) split, lost-append f qs rest, c.requires.lost, c.requires.small)

pub cells-preserved : goal.cells-preserved
cells-preserved c =
    let f = kids c.args.model.now in
    let qs = pieces_in (cell_ref c.in-Some.cell) in
    let rest = spread (cells_rest c.next.new.self) in
    let split : spread (cells_rest c.cells.cells) ≡ qs ++ rest = ap spread c.in-Some.ensures.steps in
    let is = c.weighed-balance.ensures in
    record {
      gained = omega (arith, c.cells.invariant.gained, ap (gained f) split, gained-append f qs rest, is.gained);
      lost = omega (arith, c.cells.invariant.lost, ap (lost f) split, lost-append f qs rest, is.lost);
      few = omega (arith, c.cells.invariant.few, ap new_len split, new_len-append qs rest, is.few);
    }
