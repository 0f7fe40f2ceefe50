use Rattle.std.proofs.Common.{◌≡◌, ◌++◌, drop}
use Rattle.std.specs.List.{flat_map}
use Rattle.spec_plan_texts.specs.Plan.{sections_of}
use Rattle.spec_plan_texts.specs.PlanNames.{names_of_lists}
use Rattle.gl_text.specs.Texts.{section_text}
use Rattle.gl_text.proofs.plan_writer.add_sections.Given as goal

-- what is written and what is left are the whole
abbrev pub invariant-sections : goal.invariant-sections
invariant-sections l = l.out ++ flat_map (section_text (names_of_lists l.plan))
    (drop l.section (sections_of l.plan l.writer)) ≡ l.initial.out ++ flat_map (section_text (names_of_lists l.plan))
    (sections_of l.plan l.writer)
