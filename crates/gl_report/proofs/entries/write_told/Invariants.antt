use Rattle.std.proofs.Common.{◌≡◌, ◌++◌, drop}
use Rattle.gl_world.specs.Told.{tellings_of}
use Rattle.spec_reports.specs.Report.{told_lines, told_first, told_later}
use Rattle.gl_report.proofs.entries.write_told.Given as goal

-- what is written and what is left are the whole
abbrev pub invariant-loop-count : goal.invariant-loop-count
invariant-loop-count l = record {
  text : l.out ++ told_lines l.listeners (told_first l.place (tellings_of (drop l.count l.told))) ≡ l.initial.out ++ told_lines l.listeners (told_first l.place (tellings_of l.told));
  left : told_later l.place (tellings_of (drop l.count l.told)) ≡ told_later l.place (tellings_of l.told);
}
