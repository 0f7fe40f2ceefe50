use Rattle.std.proofs.Common.{◌≡◌, ◌+◌, ◌≤◌, length, drop}
use Rattle.spec_reports.specs.Laws.{told_to}
use Rattle.gl_world.specs.Told.{tellings_of}
use Rattle.gl_report.proofs.counts.tellings.Given as goal

-- those that are counted and those that are left are all
abbrev pub invariant-loop-telling : goal.invariant-loop-telling
invariant-loop-telling l = record {
  few : l.count ≤ l.telling-index;
  all : l.count + length (told_to l.listener (tellings_of (drop l.telling-index l.told)))
      ≡ length (told_to l.listener (tellings_of l.told));
}
