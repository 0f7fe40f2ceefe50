use Rattle.std.proofs.Common.{◌∙◌, sum, ap, arith}
use Rattle.gl_joined.specs.Kept.{Kept}
use Rattle.gl_joined.specs.Sums.{below-fits}
use Rattle.gl_joined.specs.declared.length.Length.{Length}
use Rattle.gl_joined.proofs.Entries.{parts-sum, elements-sum}
use Rattle.gl_joined.proofs.list.LengthList.total.Goals as goal

pub returns : goal.returns
returns c =
    let es = c.self.inside.tree.entries in
    let lens = ap (λ (k : Kept). sum k.lens) c.self.view_is in
    let fits = below-fits _ (omega (arith, c.requires, lens, parts-sum es c.self.invariant.single, elements-sum es, c.self.invariant.few)) in
    ap (λ (x : Length). x.elements) (c.sum.ensures fits) ∙ (elements-sum es ∙ lens)
