use Rattle.std.proofs.Common.{rules, ◌≡◌, ◌++◌, ◌<◌, [], length}
use Rattle.spec_plan_texts.specs.Plan.{sections_of, commands_of}
use Rattle.spec_plan_texts.specs.PlanNames.{names_of_lists}
use Rattle.gl_text.specs.Texts.{section_text}
use Rattle.gl_text.proofs.Texts.{one_more}
use Rattle.gl_text.proofs.plan_writer.add_sections.Goals as goal

pub sections-preserved : goal.sections-preserved
sections-preserved c =
    let names = names_of_lists c.args.plan.now in
    let sections = sections_of c.args.plan.now c.args.writer in
    let written : c.add_section.new.out ≡ c.sections.out ++ section_text names
    (commands_of c.args.plan.now c.args.writer c.sections.section) = search rules in
    let within : c.sections.section < length sections = search rules in
    one_more (section_text names) sections c.sections.section [] c.sections.out c.add_section.new.out _ within written
    c.sections.invariant
