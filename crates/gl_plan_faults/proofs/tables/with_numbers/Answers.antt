use Rattle.std.proofs.Common.{◌||◌, ap, ◌∙◌}
use Rattle.std.specs.Prelude.{option_to_list}
use Rattle.spec_order.specs.DependencyOrder.{has}
use Rattle.gl_plan_faults.proofs.Built.{numbers_more}
use Rattle.gl_plan_faults.proofs.tables.with_numbers.Goals as goal

pub loop-named-preserved : goal.loop-named-preserved
loop-named-preserved c =
    numbers_more c.args.names.now c.args.listed.now c.loop-named.named-index c.named-item.result
    c.args.needs c.loop-named.needs c.in_ok-needs.needs c.loop-named-test.true c.named-item.is
    c.loop-named.invariant
    (λ b. c.in_ok-needs.ensures b ∙ ap (λ o. has c.loop-named.needs b || has (option_to_list o) b) c.number.ensures.value)
