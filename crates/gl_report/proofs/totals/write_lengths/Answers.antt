use Rattle.std.proofs.Common.{◌≡◌, ◌∙◌, length, ap, sym}
use Rattle.spec_reports.specs.Plan.{Plan}
use Rattle.spec_reports.specs.State.{State}
use Rattle.spec_reports.specs.Shown.{Table, table_of}
use Rattle.spec_reports.proofs.Views.{length-table_of}
use Rattle.spec_reports.specs.Run.{run}
use Rattle.spec_reports.proofs.KeptKinds.{length-state}
use Rattle.gl_report.proofs.Lengths.{length_more}
use Rattle.gl_report.proofs.totals.write_lengths.Goals as goal

pub loop-list-preserved : goal.loop-list-preserved
loop-list-preserved g c =
    let lists = c.lists-lists.result.now in
    let plan : Plan = c.args.world.now.plan in
    let state : State = (run plan c.args.world.now.order).state in
    let shown : Table = table_of state in
    let same : length lists ≡ length shown =
    ap length (c.lists-lists.ensures.lists ∙ ap (λ p. p.lists) c.plan-plan.ensures)
    ∙ sym (length-state plan c.args.world.now.order) ∙ sym (length-table_of state) in
    rw c.in_ok-write_length.ensures (rw (c.bytes.ensures.value ∙ c.text.ensures.value) (rw c.len.ensures.len
    (length_more c.loop-list.out _ lists shown c.loop-list.list c.index-lists-list.result c.loop-list-test.true same
    c.index-lists-list.is c.loop-list.invariant)))
