use Rattle.std.proofs.Common.{◌≡◌, ◌∙◌, length, sym, arith}
use Rattle.spec_lists.specs.Piece.{new_len}
use Rattle.gl_delta.specs.Pieces.{pieces}
use Rattle.gl_delta.specs.Marks.{IsSelected}
use Rattle.gl_delta.specs.declared.mark.Side.TheVariants.{New}
use Rattle.gl_delta.proofs.Settled.{IsRun, new_len-take, next_is, after_run, settled, settled_already}
use Rattle.gl_delta.proofs.edits.settle.Goals as goal

pub returns-then-to-at-clause-value : goal.returns-then-to-at-clause-value
returns-then-to-at-clause-value c = settled_already (pieces c.args.store.now) c.run_start-to.result c.args.at c.if-to-at.true c.run_start-to.ensures.before c.requires.back

pub select-end-requires : goal.select-end-requires
select-end-requires c = omega (arith, c.rank.ensures, new_len-take (pieces c.args.store.now) c.args.at)

pub move_deleted-requires-clause-later : goal.move_deleted-requires-clause-later
move_deleted-requires-clause-later c =
    let ps = pieces c.args.store.now in
    let r : IsRun ps c.run_start-to.result c.args.at = record { within = c.run_start-to.ensures.within; run = c.run_start-to.ensures.run; before = c.run_start-to.ensures.before } in
    after_run ps c.run_start-to.result c.args.at c.select-end.result c.requires.within r (next_is ps c.args.at c.rank.result c.select-end.result c.rank.ensures c.select-end.ensures)

pub returns-clause-value : goal.returns-clause-value
returns-clause-value c =
    let ps = pieces c.args.store.now in
    let r : IsRun ps c.run_start-to.result c.args.at = record { within = c.run_start-to.ensures.within; run = c.run_start-to.ensures.run; before = c.run_start-to.ensures.before } in
    let s = next_is ps c.args.at c.rank.result c.select-end.result c.rank.ensures c.select-end.ensures in
    c.move_deleted.ensures.pieces (after_run ps c.run_start-to.result c.args.at c.select-end.result c.requires.within r s)
    ∙ settled ps c.run_start-to.result c.args.at c.select-end.result c.requires.within r s c.requires.back
