use Rattle.std.proofs.Common.{◌≡◌, Some, ap, ◌∙◌}
use Rattle.std.specs.Prelude.{option_map, slice_get}
use Rattle.spec_plans.specs.Names.{list_names, number_of}
use Rattle.gl_plan_faults.proofs.Finds.{class_some}
use Rattle.gl_plan_faults.proofs.known.Known.class.Goals as goal

pub returns-in-Some : goal.returns-in-Some
returns-in-Some c =
    let k = c.args.self.now in
    let number : Some c.in-Some.number ≡ number_of (list_names k.lines.now) c.args.name.now =
    c.in-Some.ensures.value ∙ ap (λ ns. number_of ns c.args.name.now) c.requires.names_are in
    c.class_at.ensures ∙ ap (λ ls. option_map (λ l. l.class) (slice_get ls c.in-Some.number)) c.as_slice.ensures.value
    ∙ class_some k.lines.now k.lists.items c.args.name.now c.in-Some.number c.requires.lists_are number
