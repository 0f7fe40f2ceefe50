use Rattle.std.proofs.Common.{◌≡◌, ◌++◌, drop}
use Rattle.spec_reports.specs.Run.{run}
use Rattle.spec_reports.specs.Shown.{table_of}
use Rattle.spec_reports.specs.Summary.{length_lines}
use Rattle.gl_report.proofs.totals.write_lengths.Given as goal

-- what is written and what is left are the whole
abbrev pub invariant-loop-list : goal.invariant-loop-list
invariant-loop-list g l =
    l.out ++ length_lines (drop l.list l.lists) (drop l.list (table_of (run l.world.plan l.world.order).state))
    ≡ l.initial.out ++ length_lines l.lists (table_of (run l.world.plan l.world.order).state)
