use Rattle.std.proofs.Common.{ℕ, OnOk, ap, sym, subst, arith}
use Rattle.spec_views.specs.Piece.{identity, old_len, new_len}
use Rattle.spec_views.specs.Cells.{pieces_in}
use Rattle.spec_views.proofs.Lengths.{old_len-identity, new_len-identity}
use Rattle.gl_delta.specs.declared.cell.CellRef.{CellRef}
use Rattle.gl_delta.specs.Cells.{cell_ref}
use Rattle.gl_range.specs.Told.{told_in}
use Rattle.gl_range.specs.Walks.{GoesOn}
use Rattle.gl_range.proofs.follow.step.Goals as goal

pub tell_keeps-requires-clause-news : goal.tell_keeps-requires-clause-news
tell_keeps-requires-clause-news g c = omega (arith, c.requires.news, ap (λ (k : CellRef). new_len (pieces_in (cell_ref k))) c.in-Keep.is, new_len-identity c.in-Keep.n)

pub tell_keeps-requires-clause-olds : goal.tell_keeps-requires-clause-olds
tell_keeps-requires-clause-olds g c = omega (arith, c.requires.olds, ap (λ (k : CellRef). old_len (pieces_in (cell_ref k))) c.in-Keep.is, old_len-identity c.in-Keep.n)

pub returns-in-Keep : goal.returns-in-Keep
returns-in-Keep g c =
    let ys = g.S.Shelf.items c.args.input.now in
    let walk = c.args.walk.now in
    let n = c.in-Keep.n in
    let told = told_in ys c.args.slices walk.old_position walk.new_position (identity n) in
    let Olds : ℕ → Type 0 = λ k. OnOk c.tell_keeps.result (GoesOn told k n walk c.tell_keeps.new.walk) in
    let News : ℕ → Type 0 = λ k. OnOk c.tell_keeps.result (GoesOn told (old_len (identity n)) k walk c.tell_keeps.new.walk) in
    let ByCell : CellRef → Type 0 =
    λ k. OnOk c.tell_keeps.result (GoesOn (told_in ys c.args.slices walk.old_position walk.new_position (pieces_in (cell_ref k)))
    (old_len (pieces_in (cell_ref k))) (new_len (pieces_in (cell_ref k))) walk c.tell_keeps.new.walk) in
    subst ByCell (sym c.in-Keep.is) (subst News (sym (new_len-identity n)) (subst Olds (sym (old_len-identity n)) c.tell_keeps.ensures))
