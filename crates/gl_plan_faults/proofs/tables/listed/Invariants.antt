use Rattle.std.proofs.Common.{take}
use Rattle.std.specs.List.{AllZip}
use Rattle.spec_plans.specs.Names.{heads}
use Rattle.gl_plan_faults.specs.Marks.{StandsFor}
use Rattle.gl_plan_faults.proofs.tables.listed.Given as goal

abbrev pub invariant-loop-line : goal.invariant-loop-line
invariant-loop-line l = AllZip (StandsFor l.lines) (heads (take l.line-index l.lines)) l.lists.items
