use Rattle.std.proofs.Common.{◌≡◌, ◌∙◌, ap, sym}
use Rattle.std.specs.Prelude.{pos, unwrap_or}
use Rattle.spec_sorting.specs.Tree.{num}
use Rattle.spec_sorting.specs.Leads.{undone}
use Rattle.spec_sorting.specs.Source.{element_at}
use Rattle.spec_sorting.proofs.DeltaLeads.{leads_back_to}
use Rattle.gl_arranged.specs.Sorting.{order_cmp}
use Rattle.gl_classes.proofs.meeting.compare_keys.Goals as goal

pub returns-clause-value : goal.returns-clause-value
returns-clause-value g c =
    let ps = c.args.d.now.pieces in
    let ys = g.S.Shelf.items c.args.input.now in
    let xs = undone ps ys in
    let old : c.old_value.result.now ≡ element_at xs c.args.old = c.old_value.ensures xs (leads_back_to ps ys c.requires.leads).0 in
    let new : c.element.result.now ≡ element_at ys c.args.new = sym (ap (λ t. unwrap_or t (num (pos 0))) c.element.ensures) in
    c.compare.ensures.value ∙ (ap (λ v. order_cmp c.args.order.now v c.element.result.now) old ∙ ap (order_cmp c.args.order.now (element_at xs c.args.old)) new)
