use Rattle.std.proofs.Common.{◌∙◌, length, insert, ap, arith}
use Rattle.gl_joined.specs.Kept.{Kept}
use Rattle.gl_joined.proofs.Entries.{part_of, single-insert, lens-insert, length-lens}
use Rattle.gl_joined.proofs.editable.LengthListEditable.insert.Goals as goal

pub invariant_of-self : goal.invariant_of-self
invariant_of-self c =
    let es = c.self.inside.tree.entries in
    let at = c.args.at in
    let slot = c.insert_reserved.result in
    let n = c.args.item in
    let long = ap length (lens-insert es at slot n ∙ ap (λ (k : Kept). insert k.lens at n) c.self.view_is) in
    rw (c.insert_reserved.ensures.entries, c.one.ensures) (record {
      single = single-insert es at slot n c.self.invariant.single;
      few = omega (arith, c.requires.fits.few, length-lens (insert es at (slot, part_of n)), long);
    })

pub returns-clause-items : goal.returns-clause-items
returns-clause-items c =
    let es = c.self.inside.tree.entries in
    rw (c.insert_reserved.ensures.entries, c.one.ensures)
    (lens-insert es c.args.at c.insert_reserved.result c.args.item ∙ ap (λ (k : Kept). insert k.lens c.args.at c.args.item) c.self.view_is)
