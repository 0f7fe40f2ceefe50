use Rattle.std.proofs.Common.{◌≡◌, ◌∙◌, ◌++◌, ap}
use Rattle.std.specs.Prelude.{codes}
use Rattle.std.proofs.lemmas.Result.{IfOk-equal}
use Rattle.spec_reports.specs.Report.{listener_name}
use Rattle.gl_report.proofs.Lines.{refused_written}
use Rattle.gl_report.proofs.entries.write_one_refused.Goals as goal

pub returns : goal.returns
returns c =
    let out = c.args.out.now in
    let name = listener_name c.args.listeners.now c.args.listener in
    let named : c.write_name.new.out ≡ (out ++ codes "refused ") ++ name = c.in_ok-write_name.ensures ∙ ap (λ l. l ++ name) c.in_ok-push_all.ensures.ok in
    IfOk-equal c.push_all-2.result _ _ _ c.push_all-2.ensures.ok (ap (λ l. l ++ codes " write-back\n") named ∙ refused_written out name)
