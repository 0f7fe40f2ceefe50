use Rattle.std.proofs.Common.{ap, ◌∙◌, false}
use Rattle.std.specs.Prelude.{option_map, unwrap_or, slice_get}
use Rattle.spec_order.specs.DependencyOrder.{has}
use Rattle.gl_plan_faults.proofs.Finds.{depends_at}
use Rattle.gl_plan_faults.proofs.known.Known.depends_on.Goals as goal

pub returns : goal.returns
returns c =
    let k = c.args.self.now in
    c.needs_at.ensures
    ∙ ap (λ ls. unwrap_or (option_map (λ l. has l.needs c.args.other) (slice_get ls c.args.list)) false) c.as_slice.ensures.value
    ∙ depends_at k.lines.now k.lists.items c.args.list c.args.other c.requires.lists_are
