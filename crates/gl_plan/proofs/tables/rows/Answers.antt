use Rattle.std.proofs.Common.{◌∙◌}
use Rattle.gl_plan.proofs.Rows.{rows_more}
use Rattle.gl_plan.proofs.tables.rows.Goals as goal

pub loop-line-preserved : goal.loop-line-preserved
loop-line-preserved c = record {
  count = c.in_ok-rows-2.ensures.count ∙ c.loop-line.invariant.count;
  so_far = rows_more c.args.names.now c.args.lines.now c.loop-line.line-index c.line-item.result c.loop-line.rows.items c.in_ok-rows-2.rows.items
      c.loop-line-test.true c.line-item.is c.loop-line.invariant.so_far c.in_ok-rows-2.ensures.rows;
}
