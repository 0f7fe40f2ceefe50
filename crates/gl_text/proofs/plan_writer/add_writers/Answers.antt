use Rattle.std.proofs.Common.{rules, ◌≡◌, ◌++◌, ◌<◌, [], length}
use Rattle.spec_plan_texts.specs.Plan.{sections_of}
use Rattle.spec_plan_texts.specs.PlanNames.{names_of_lists}
use Rattle.gl_text.specs.Texts.{writer_text}
use Rattle.gl_text.proofs.Texts.{one_more}
use Rattle.gl_text.proofs.plan_writer.add_writers.Goals as goal

pub writers-preserved : goal.writers-preserved
writers-preserved c =
    let names = names_of_lists c.args.plan.now in
    let written : c.add_writer.new.out ≡ c.writers.out ++ writer_text names
    (sections_of c.args.plan.now c.writers.writer) = search rules in
    let within : c.writers.writer < length c.args.plan.now.writers = search rules in
    one_more (writer_text names) c.args.plan.now.writers c.writers.writer [] c.writers.out c.add_writer.new.out _
    within written c.writers.invariant
