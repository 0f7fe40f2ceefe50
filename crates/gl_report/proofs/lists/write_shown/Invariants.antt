use Rattle.std.proofs.Common.{◌≡◌, ◌++◌, drop}
use Rattle.spec_reports.specs.Run.{shown_after}
use Rattle.gl_syntax.specs.Elements.{elements_from}
use Rattle.gl_report.proofs.lists.write_shown.Given as goal

-- what is written and what is left are the whole
abbrev pub invariant-loop-place : goal.invariant-loop-place
invariant-loop-place g l =
    l.out ++ elements_from l.place (drop l.place (shown_after l.world.plan l.world.order l.list))
    ≡ l.initial.out ++ elements_from 0 (shown_after l.world.plan l.world.order l.list)
