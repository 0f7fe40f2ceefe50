use Rattle.std.proofs.Common.{◌∙◌, length, sym, ap}
use Rattle.gl_fourcolour.specs.Rows.{Row}
use Rattle.gl_fourcolour.proofs.Weights.{length-runs_of}
use Rattle.gl_fourcolour.proofs.row.RunRow.len.Goals as goal

pub returns : goal.returns
returns c = c.len.ensures.value ∙ (sym (length-runs_of c.self.inside.tree.entries) ∙ ap (λ (x : Row). length x.runs) c.self.view_is)
