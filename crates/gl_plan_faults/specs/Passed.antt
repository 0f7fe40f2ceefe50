-- What a count of the lines that were judged stands for.
use Rattle.std.specs.Prelude.{◌≡◌, ◌≤◌, ℕ, Bool, false, nat_lt, if◌then◌else◌, List, length, take, Option, Some, None}
use Rattle.gl_lines.specs.declared.line.NumberedLine.{NumberedLine}
use Rattle.std.specs.Option.{is_some}
use Rattle.gl_lines.specs.declared.named.Named.{Named}
use Rattle.gl_lines.specs.declared.fault.PlanKind.TheVariants.{Second}
use Rattle.spec_plans.specs.declared.fault.NameFault.{NameFault}
use Rattle.spec_plans.specs.Names.{heads, hearers, number_of}
use Rattle.spec_plans.specs.NameFaults.{undone_inputs, wrong}
use Rattle.gl_plan_faults.specs.declared.passed.Passed.{Passed}

-- it is the count of the first of these lines
pub record HasPassed (p : Passed) (lines : List NumberedLine) : Type 0 where
  pub within : p.place ≤ length lines
  pub lists : p.lists ≡ length (heads (take p.place lines))
  pub listeners : p.listeners ≡ length (hearers (take p.place lines))
  pub undone : p.undone ≡ undone_inputs (heads (take p.place lines))
  pub few : length p.undone ≤ p.lists

-- whether there is a number, below a bound
abbrev pub is_early : Option ℕ → ℕ → Bool
is_early None n = false
is_early (Some k) n = nat_lt k n

-- the fault of a transaction's input that is among these
abbrev pub again_fault : List (List ℕ) → Named → Option NameFault
again_fault undone named =
    if is_some (number_of undone named.name) then wrong named Second else None
