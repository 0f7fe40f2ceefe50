use Rattle.std.proofs.Common.{◌≡◌, ℕ, ◌||◌, take}
use Rattle.spec_order.specs.DependencyOrder.{has}
use Rattle.spec_plans.specs.Names.{numbers_in}
use Rattle.gl_plan_faults.proofs.tables.with_numbers.Given as goal

abbrev pub invariant-loop-named : goal.invariant-loop-named
invariant-loop-named l =
    (b : ℕ) → has l.needs b ≡ (has l.initial.needs b || has (numbers_in l.names (take l.named-index l.listed)) b)
