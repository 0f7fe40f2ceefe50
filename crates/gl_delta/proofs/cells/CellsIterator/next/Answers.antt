use Rattle.std.proofs.Common.{◌≡◌, ◌<◌, arith}
use Rattle.gl_delta.specs.Cells.{cell_ref}
use Rattle.gl_delta.proofs.CellRuns.{cells_keep, cells_found, fewer}
use Rattle.gl_delta.proofs.cells.CellsIterator.next.Goals as goal

pub returns-then-self-found-clause-steps : goal.returns-then-self-found-clause-steps
returns-then-self-found-clause-steps c =
    let s = c.args.self.now in
    let ps = s.store.now.pieces in
    let more : s.at < c.next_changed-found.result = omega (arith, c.if-self-found.true) in
    let steps = cells_keep ps s.at c.next_changed-found.result c.next_changed-found.ensures more in
    steps

pub returns-then-self-found-clause-goes : goal.returns-then-self-found-clause-goes
returns-then-self-found-clause-goes c =
    let s = c.args.self.now in
    let ps = s.store.now.pieces in
    let more : s.at < c.next_changed-found.result = omega (arith, c.if-self-found.true) in
    let steps = cells_keep ps s.at c.next_changed-found.result c.next_changed-found.ensures more in
    record { on = λ _. (tt, tt, fewer _ _ _ steps); keeps = tt; rests = λ _. tt }

pub returns-clause-steps : goal.returns-clause-steps
returns-clause-steps c =
    let s = c.args.self.now in
    let ps = s.store.now.pieces in
    let same : c.next_changed-found.result ≡ s.at = omega (arith, c.next_changed-found.ensures.order, c.if-self-found.false) in
    let steps = cells_found ps s.at c.next_changed-found.result (cell_ref c.cell.result) same (omega (arith, c.if-self-len.false, c.len-len.ensures)) c.next_changed-found.ensures c.cell.ensures in
    steps

pub returns-clause-goes : goal.returns-clause-goes
returns-clause-goes c =
    let s = c.args.self.now in
    let ps = s.store.now.pieces in
    let same : c.next_changed-found.result ≡ s.at = omega (arith, c.next_changed-found.ensures.order, c.if-self-found.false) in
    let steps = cells_found ps s.at c.next_changed-found.result (cell_ref c.cell.result) same (omega (arith, c.if-self-len.false, c.len-len.ensures)) c.next_changed-found.ensures c.cell.ensures in
    record { on = λ _. (tt, tt, fewer _ _ _ steps); keeps = tt; rests = λ _. tt }
