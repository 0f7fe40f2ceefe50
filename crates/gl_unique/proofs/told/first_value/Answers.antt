use Rattle.std.proofs.Common.{◌∙◌, sym, ap}
use Rattle.spec_sorting.specs.Leads.{undone}
use Rattle.spec_sorting.proofs.DeltaLeads.{leads_back_to}
use Rattle.spec_classes.specs.Told.{first_value}
use Rattle.gl_unique.proofs.told.first_value.Goals as goal

pub returns-in-Gone : goal.returns-in-Gone
returns-in-Gone g c =
    let d = c.args.d.now.pieces in
    let ys = g.S.Shelf.items c.args.input.now in
    c.old_value.ensures (undone d ys) (leads_back_to d ys c.requires.leads).0 ∙ ap (first_value (undone d ys) ys) (sym c.in-Gone.is)
