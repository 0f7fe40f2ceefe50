use Rattle.std.proofs.Common.{◌≡◌, ◌++◌, drop, map}
use Rattle.spec_plan_texts.specs.Spelled.{spelled_others}
use Rattle.spec_plan_texts.specs.PlanNames.{named}
use Rattle.gl_text.specs.Texts.{listener_names}
use Rattle.gl_text.proofs.name.add_others.Given as goal

-- what is written and what is left are the whole
abbrev pub invariant-names : goal.invariant-names
invariant-names l = l.out ++ spelled_others (map (named (listener_names l.listeners)) (drop l.number-index l.numbers))
    ≡ l.initial.out ++ spelled_others (map (named (listener_names l.listeners)) l.numbers)
