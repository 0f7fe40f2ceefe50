use Rattle.std.proofs.Common.{sym, ap, ◌∙◌}
use Rattle.std.specs.Option.{option_map}
use Rattle.std.specs.List.{slice_get}
use Rattle.gl_fourcolour.specs.Rows.{Row}
use Rattle.gl_fourcolour.specs.Counts.{run_of}
use Rattle.gl_fourcolour.proofs.Weights.{runs-get}
use Rattle.gl_fourcolour.proofs.row.RunRow.get.Goals as goal

pub returns : goal.returns
returns c =
    let runs_is = ap (λ (x : Row). x.runs) c.self.view_is in
    let position = c.args.position in
    c.entry_run.ensures ∙ (ap (λ o. option_map (λ e. run_of e.1) o) c.get.ensures ∙ (sym (runs-get c.self.inside.tree.entries position) ∙ ap (λ xs. slice_get xs position) runs_is))
