use Rattle.std.proofs.Common.{◌≡◌, ◌++◌, drop}
use Rattle.spec_reports.specs.Summary.{told_counts}
use Rattle.gl_world.specs.Told.{tellings_of}
use Rattle.gl_report.proofs.counts.write_counts.Given as goal

-- what is written and what is left are the whole
abbrev pub invariant-loop-listener : goal.invariant-loop-listener
invariant-loop-listener g l =
    l.out ++ told_counts l.listener (drop l.listener l.listeners) (tellings_of l.told)
    ≡ l.initial.out ++ told_counts 0 l.listeners (tellings_of l.told)
