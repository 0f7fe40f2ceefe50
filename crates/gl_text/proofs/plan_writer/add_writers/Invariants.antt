use Rattle.std.proofs.Common.{◌≡◌, ◌++◌, drop}
use Rattle.std.specs.List.{flat_map}
use Rattle.spec_plan_texts.specs.PlanNames.{names_of_lists}
use Rattle.gl_text.specs.Texts.{writer_text}
use Rattle.gl_text.proofs.plan_writer.add_writers.Given as goal

-- what is written and what is left are the whole
abbrev pub invariant-writers : goal.invariant-writers
invariant-writers l = l.out ++ flat_map (writer_text (names_of_lists l.plan)) (drop l.writer l.plan.writers)
    ≡ l.initial.out ++ flat_map (writer_text (names_of_lists l.plan)) l.plan.writers
