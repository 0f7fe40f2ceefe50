use Rattle.std.proofs.Common.{◌∙◌, length, ap, sym, subst}
use Rattle.std.proofs.lemmas.List.{length-map}
use Rattle.spec_classes.specs.Classes.{classes}
use Rattle.spec_classes.specs.Unique.{shown_member}
use Rattle.gl_classes.specs.Kept.{Kept}
use Rattle.gl_classes.specs.Sorting.{order_cmp}
use Rattle.gl_classes.specs.Stands.{StandsFor}
use Rattle.gl_unique.proofs.unique.Unique.len.Goals as goal

pub returns : goal.returns
returns c = record {
  view = λ xs stands.
      c.len.ensures.classes xs (subst (λ (k : Kept). StandsFor k xs) (sym c.self.view_is) stands)
      ∙ (ap (λ (k : Kept). length (classes (order_cmp k.list.order) xs)) c.self.view_is
      ∙ sym (length-map (classes (order_cmp c.args.self.now.list.order) xs) (shown_member xs)));
}
