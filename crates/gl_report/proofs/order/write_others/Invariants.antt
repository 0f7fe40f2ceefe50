use Rattle.std.proofs.Common.{◌≡◌, ◌++◌, drop}
use Rattle.spec_reports.specs.Order.{spelled_rest}
use Rattle.gl_report.proofs.order.write_others.Given as goal

-- what is written and what is left are the whole
abbrev pub invariant-loop-actor : goal.invariant-loop-actor
invariant-loop-actor l = l.out ++ spelled_rest (drop l.actor-index l.others) ≡ l.initial.out ++ spelled_rest l.others
