use Rattle.std.proofs.Common.{◌≡◌, ◌++◌, drop, map}
use Rattle.spec_plan_texts.specs.Spelled.{spelled_names}
use Rattle.spec_plan_texts.specs.PlanNames.{named}
use Rattle.gl_text.specs.Texts.{names_of_decls}
use Rattle.gl_text.proofs.name.add_names.Given as goal

-- what is written and what is left are the whole
abbrev pub invariant-names : goal.invariant-names
invariant-names l = l.out ++ spelled_names (map (named (names_of_decls l.lists)) (drop l.number-index l.numbers))
    ≡ l.initial.out ++ spelled_names (map (named (names_of_decls l.lists)) l.numbers)
