use Rattle.std.proofs.Common.{◌≡◌, ◌+◌, ◌*◌, ◌≤◌, drop}
use Rattle.spec_reports.specs.Laws.{told_to}
use Rattle.spec_reports.specs.Summary.{changes_in}
use Rattle.gl_world.specs.Told.{tellings_of}
use Rattle.gl_report.proofs.counts.changes.Given as goal

-- those that are counted and those that are left are all
abbrev pub invariant-loop-telling : goal.invariant-loop-telling
invariant-loop-telling l = record {
  few : l.changes ≤ 18446744073709551615 * l.telling-index;
  all : l.changes + changes_in (told_to l.listener (tellings_of (drop l.telling-index l.told)))
      ≡ changes_in (told_to l.listener (tellings_of l.told));
}
