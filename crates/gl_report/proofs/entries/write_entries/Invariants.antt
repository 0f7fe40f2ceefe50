use Rattle.std.proofs.Common.{◌≡◌, ◌++◌, drop}
use Rattle.spec_reports.specs.Run.{run}
use Rattle.gl_world.specs.Told.{tellings_of}
use Rattle.spec_reports.specs.Report.{entry_lines}
use Rattle.gl_report.proofs.entries.write_entries.Given as goal

-- what is written and what is left are the whole
abbrev pub invariant-loop-place : goal.invariant-loop-place
invariant-loop-place g l =
    l.out ++ entry_lines l.world.plan l.place (drop l.place l.order) (drop l.place (run l.world.plan l.world.order).replies) (tellings_of l.told)
    ≡ l.initial.out ++ entry_lines l.world.plan 0 l.order (run l.world.plan l.world.order).replies (run l.world.plan l.world.order).told
