use Rattle.std.proofs.Common.{◌∙◌, set, slice_get, option_map, ap, sym, arith}
use Rattle.gl_joined.specs.Kept.{Kept}
use Rattle.gl_joined.proofs.Entries.{single-set, lens-set, lens-get, length-set_own}
use Rattle.gl_joined.proofs.editable.LengthListEditable.replace.Goals as goal

pub invariant_of-self : goal.invariant_of-self
invariant_of-self c =
    let es = c.self.inside.tree.entries in
    rw (c.set_own.ensures.entries, c.one.ensures) (record {
      single = single-set es c.args.at c.args.item c.self.invariant.single;
      few = omega (arith, c.self.invariant.few, length-set_own es c.args.at c.args.item);
    })

pub returns-clause-item : goal.returns-clause-item
returns-clause-item c =
    let es = c.self.inside.tree.entries in
    ap (λ (k : Kept). slice_get k.lens c.args.at) (sym c.self.view_is)
    ∙ (lens-get es c.args.at ∙ ap (option_map (λ e. e.1.elements)) (sym c.get-old.ensures ∙ c.in-Some.is))

pub returns-clause-items : goal.returns-clause-items
returns-clause-items c =
    let es = c.self.inside.tree.entries in
    rw (c.set_own.ensures.entries, c.one.ensures)
    (lens-set es c.args.at c.args.item ∙ ap (λ (k : Kept). set k.lens c.args.at c.args.item) c.self.view_is)
