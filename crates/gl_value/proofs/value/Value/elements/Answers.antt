use Rattle.std.proofs.Common.{sym, ap, ◌∙◌}
use Rattle.spec_value.specs.Tree.{elements, list-trees}
use Rattle.gl_value.proofs.value.Value.elements.Goals as goal

pub returns-in-Items : goal.returns-in-Items
returns-in-Items c = sym (list-trees c.in-Items.vs.now) ∙ ap elements c.in-Items.ensures
