use Rattle.std.proofs.Common.{◌∙◌, ap}
use Rattle.gl_barcode.specs.Bars.{count_shown}
use Rattle.gl_classes.specs.Kept.{Kept}
use Rattle.gl_classes.proofs.Standing.{many}
use Rattle.gl_classes.proofs.classes.Classes.len.Goals as goal

pub returns-clause-classes : goal.returns-clause-classes
returns-clause-classes c =
    λ xs stands. c.shown_len.ensures ∙ (ap (λ (k : Kept). count_shown k.firsts.shown) c.self.view_is ∙ many c.args.self.now xs stands)
