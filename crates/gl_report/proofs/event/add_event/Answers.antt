use Rattle.gl_event.specs.Changes.{change_ref, changes_rest}
use Rattle.gl_report.proofs.Events.{change_more}
use Rattle.gl_report.proofs.event.add_event.Goals as goal

pub loop-change-preserved : goal.loop-change-preserved
loop-change-preserved c = record {
  whole = rw (c.in_ok-write_change.ensures, c.in_ok-write_separator.ensures) (change_more c.loop-change.out _ c.loop-change.first (changes_rest c.loop-change.walk) (change_ref c.in-Some.change) (changes_rest c.next.new.self) c.in-Some.ensures.steps c.loop-change.invariant.whole);
  few = c.in-Some.ensures.goes.keeps;
}
