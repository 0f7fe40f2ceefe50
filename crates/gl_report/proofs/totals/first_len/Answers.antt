use Rattle.std.proofs.Common.{◌∙◌, ap}
use Rattle.std.specs.Prelude.{Some}
use Rattle.spec_reports.proofs.Summary.{first_source}
use Rattle.gl_report.proofs.totals.first_len.Goals as goal

pub returns-in-Source : goal.returns-in-Source
returns-in-Source g c =
    let whole = rw c.plan.ensures at c.lists-whole.ensures.plan in
    c.len.ensures ∙ first_source c.args.world.now.plan c.in-Source.rows whole.formed whole.acyclic
    (c.requires ∙ ap Some c.in-Source.is)
