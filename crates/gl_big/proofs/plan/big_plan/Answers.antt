use Rattle.std.proofs.Common.{◌∙◌, arith}
use Rattle.gl_big.proofs.Large.{lines_within, plan_made, no_fault, no_cycle}
use Rattle.gl_big.proofs.plan.big_plan.Goals as goal

pub from_lines-requires : goal.from_lines-requires
from_lines-requires c =
    lines_within c.args.size c.in_ok-lines.lines (omega (arith, c.ranges.size.fits)) c.in_ok-lines.ensures

pub returns-in-Ok : goal.returns-in-Ok
returns-in-Ok c = c.in-Ok.ensures.plan ∙ plan_made c.args.size c.in_ok-lines.lines c.in_ok-lines.ensures

pub unreachable-requires : goal.unreachable-requires
unreachable-requires c =
    let fault = rw c.in-Err-At.field-0-is at c.in-Err-At.ensures.fault in
    no_fault c.args.size c.in_ok-lines.lines _ c.in_ok-lines.ensures fault

pub unreachable-requires-in-Err-Cycle : goal.unreachable-requires-in-Err-Cycle
unreachable-requires-in-Err-Cycle c =
    let fault = rw c.in-Err-Cycle.field-0-is at c.in-Err-Cycle.ensures.fault in
    no_cycle c.args.size c.in_ok-lines.lines c.in-Err-Cycle.field-0-0 c.in_ok-lines.ensures fault.1
