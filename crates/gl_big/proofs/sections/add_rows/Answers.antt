use Rattle.gl_big.specs.Lines.{row_line}
use Rattle.gl_big.proofs.Counting.{one_more}
use Rattle.gl_big.proofs.sections.add_rows.Goals as goal

pub loop-k-preserved : goal.loop-k-preserved
loop-k-preserved c = rw c.in_ok-add_row.ensures
    (one_more (row_line c.args.source.now) c.args.lines.now c.loop-k.lines c.loop-k.k c.loop-k.invariant)
