use Rattle.std.proofs.Common.{◌||◌, ap, ◌∙◌}
use Rattle.spec_order.specs.DependencyOrder.{has}
use Rattle.spec_plans.specs.Names.{numbers_in}
use Rattle.gl_plan_faults.proofs.Built.{has_both}
use Rattle.gl_plan_faults.proofs.tables.needs_of.Goals as goal

pub returns : goal.returns
returns c =
    let names = c.args.names.now in
    let xs = c.args.head.now.inputs.now in
    has_both names xs c.args.head.now.may.now c.in_ok-inputs.inputs c.in_ok-needs.needs
    (λ b. c.in_ok-inputs.ensures b ∙ ap (λ ns. has ns b || has (numbers_in names xs) b) c.new.ensures)
    c.in_ok-needs.ensures
