use Rattle.std.proofs.Common.{◌≡◌, take}
use Rattle.spec_plans.specs.Names.{listener_names}
use Rattle.gl_plan_faults.proofs.tables.names_of_listeners.Given as goal

abbrev pub invariant-loop-line : goal.invariant-loop-line
invariant-loop-line l = l.table ≡ listener_names (take l.line-index l.lines)
