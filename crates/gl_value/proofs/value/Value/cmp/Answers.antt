use Rattle.std.proofs.Common.{sym, ap, ◌∙◌}
use Rattle.std.specs.Cmp.{tied_itself}
use Rattle.spec_value.specs.Order as order
use Rattle.spec_value.proofs.Order.{cmp-equal, cmp_total}
use Rattle.gl_value.proofs.value.Value.cmp.Goals as goal

pub returns-clause-equal : goal.returns-clause-equal
returns-clause-equal c =
    let is = c.cmp_values.ensures in
    (λ e. cmp-equal c.args.self.now c.args.other.now (sym is ∙ e), λ e. is ∙ ap (order.cmp c.args.self.now) (sym e) ∙ tied_itself cmp_total c.args.self.now)
