use Rattle.std.proofs.Common.{◌∙◌, ap, refl}
use Rattle.gl_world.specs.History.{History}
use Rattle.spec_reports.specs.Summary.{summary}
use Rattle.gl_app.proofs.AllSections.{summary_of_all}
use Rattle.gl_app.proofs.big.answer_summary.Goals as goal

pub returns : goal.returns
returns g c = record {
  status = refl;
  text = c.in_ok-summary.ensures ∙ ap (λ (w : History). summary w.plan w.order) c.in_ok-take_sections.ensures
      ∙ summary_of_all c.args.world.now.plan c.args.size c.requires.plan;
}
