use Rattle.std.proofs.Common.{◌≡◌, ◌-◌, ◌++◌}
use Rattle.spec_reports.specs.Report.{listener_name, refused_lines}
use Rattle.gl_report.proofs.entries.write_refused.Given as goal

-- what is written and what is left are the whole
abbrev pub invariant-refused : goal.invariant-refused
invariant-refused l =
    l.out ++ refused_lines (listener_name l.listeners l.listener) (l.count - l.counter)
    ≡ l.initial.out ++ refused_lines (listener_name l.listeners l.listener) l.count
