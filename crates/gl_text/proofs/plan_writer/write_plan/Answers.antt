use Rattle.spec_plan_texts.proofs.Rewritten.{rewritten}
use Rattle.gl_text.proofs.plan_writer.write_plan.Goals as goal

pub returns-in_err-add_plan-clause-back : goal.returns-in_err-add_plan-clause-back
returns-in_err-add_plan-clause-back c = λ bytes. rewritten bytes c.args.plan.now

pub returns-clause-back : goal.returns-clause-back
returns-clause-back c = λ bytes. rewritten bytes c.args.plan.now
