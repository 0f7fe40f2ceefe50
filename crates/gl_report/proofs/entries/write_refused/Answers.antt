use Rattle.spec_reports.specs.Report.{listener_name}
use Rattle.gl_report.proofs.Lines.{refused_more, refused_all}
use Rattle.gl_report.proofs.entries.write_refused.Goals as goal

pub refused-preserved : goal.refused-preserved
refused-preserved c = rw c.in_ok-write_one_refused.ensures
    (refused_more c.refused.out _ (listener_name c.args.listeners.now c.args.listener) c.args.count c.refused.counter c.refused-test.true
    c.refused.invariant)

pub returns : goal.returns
returns c = refused_all c.refused.out _ (listener_name c.args.listeners.now c.args.listener) c.args.count c.refused.counter c.refused-test.false
    c.refused.invariant
