use Rattle.std.proofs.Common.{◌≡◌, map, take}
use Rattle.gl_plan_faults.specs.Marks.{is_reached}
use Rattle.gl_plan_faults.proofs.tables.reached.Given as goal

abbrev pub invariant-loop-list : goal.invariant-loop-list
invariant-loop-list l = l.next.items ≡ map (is_reached l.marks) (take l.list-index l.lists)
