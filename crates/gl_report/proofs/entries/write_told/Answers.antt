use Rattle.gl_report.proofs.Lines.{telling_more, later_more}
use Rattle.gl_report.proofs.entries.write_told.Goals as goal

pub loop-count-preserved : goal.loop-count-preserved
loop-count-preserved c = record {
  text = rw c.in_ok-write_telling.ensures (telling_more c.args.listeners.now c.loop-count.out _ c.args.told.now c.loop-count.count c.args.place c.index-told-count.result c.loop-count-test.true c.index-told-count.is c.if-telling-place.false c.loop-count.invariant.text);
  left = later_more c.args.told.now c.loop-count.count c.args.place c.index-told-count.result _ c.loop-count-test.true c.index-told-count.is c.if-telling-place.false c.loop-count.invariant.left;
}
