-- What a fault says of lines.
use Rattle.std.specs.Prelude.{◌≡◌, ℕ, List, Some, None, ⊤}
use Rattle.gl_lines.specs.declared.line.NumberedLine.{NumberedLine}
use Rattle.spec_plans.specs.NameFaults.{first_fault_at}
use Rattle.spec_plans.specs.Plan.{Plan}
use Rattle.spec_plans.specs.Cycles.{NamesCycle, IsCycleOf}
use Rattle.spec_plans.specs.Making.{plan_of}
use Rattle.gl_plan.specs.declared.fault.PlanFault.{PlanFault}
use Rattle.gl_plan.specs.declared.fault.PlanFault.TheVariants.{At, Cycle, Memory}

-- it is the first fault of the lines; or they have none, and these are the names of the first cycle of their plan
abbrev pub IsFaultOf : List NumberedLine → PlanFault → Type 0
IsFaultOf lines (At line column what) =
    first_fault_at lines ≡ Some (record { line = line; column = column; kind = what })
IsFaultOf lines (Cycle names) = (first_fault_at lines ≡ None) × IsCycleOf (plan_of lines) names
IsFaultOf lines Memory = ⊤

-- it is no fault of a line, and these are the names of the first cycle if it is one
abbrev pub IsRound : List (ℕ × ℕ) → List (List ℕ) → PlanFault → Type 0
IsRound edges names (At line column what) = ⊥
IsRound edges names (Cycle cycle) = NamesCycle edges names cycle
IsRound edges names Memory = ⊤

-- it is no fault of a line, and these are the names of the first cycle of the plan if it is one
abbrev pub IsCycleFault : Plan → PlanFault → Type 0
IsCycleFault p (At line column what) = ⊥
IsCycleFault p (Cycle names) = IsCycleOf p names
IsCycleFault p Memory = ⊤
