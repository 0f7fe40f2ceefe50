use Rattle.std.proofs.Common.{◌≡◌, ℕ}
use Rattle.spec_plans.specs.Names.{leads_to_proxy}
use Rattle.gl_plan_faults.specs.Marked.{is_marked}
use Rattle.gl_plan_faults.proofs.tables.over_proxies.Given as goal

-- so many steps were made
abbrev pub invariant-loop-step : goal.invariant-loop-step
invariant-loop-step l = (a : ℕ) → is_marked l.marks.items a ≡ leads_to_proxy l.lines l._step-index a
