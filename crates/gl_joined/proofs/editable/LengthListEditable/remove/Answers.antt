use Rattle.std.proofs.Common.{◌∙◌, length, remove, slice_get, option_map, ap, sym, arith}
use Rattle.std.proofs.lemmas.List.Edits.{length-remove}
use Rattle.gl_joined.specs.Kept.{Kept}
use Rattle.gl_joined.proofs.Entries.{single-remove, lens-remove, lens-get, length-lens}
use Rattle.gl_joined.proofs.editable.LengthListEditable.remove.Goals as goal

pub invariant_of-self : goal.invariant_of-self
invariant_of-self c =
    let es = c.self.inside.tree.entries in
    rw c.remove_at-slot.ensures.entries (record {
      single = single-remove es c.args.at c.self.invariant.single;
      few = omega (arith, c.self.invariant.few, length-remove es c.args.at (omega (arith, c.requires, length-lens es, ap (λ (k : Kept). length k.lens) c.self.view_is)));
    })

pub returns-clause-item : goal.returns-clause-item
returns-clause-item c =
    let es = c.self.inside.tree.entries in
    ap (λ (k : Kept). slice_get k.lens c.args.at) (sym c.self.view_is) ∙ (lens-get es c.args.at ∙ ap (option_map (λ e. e.1.elements)) c.remove_at-slot.ensures.value)

pub returns-clause-items : goal.returns-clause-items
returns-clause-items c =
    let es = c.self.inside.tree.entries in
    rw c.remove_at-slot.ensures.entries (lens-remove es c.args.at ∙ ap (λ (k : Kept). remove k.lens c.args.at) c.self.view_is)
