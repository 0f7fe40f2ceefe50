use Rattle.std.proofs.Common.{◌≡◌, ◌++◌, drop}
use Rattle.spec_reports.specs.Report.{reply_lines}
use Rattle.gl_report.proofs.replies.write_replies.Given as goal

-- what is written and what is left are the whole
abbrev pub invariant-loop-number : goal.invariant-loop-number
invariant-loop-number l = l.out ++ reply_lines l.lists l.number (drop l.number l.replies) ≡ l.initial.out ++ reply_lines l.lists 0 l.replies
