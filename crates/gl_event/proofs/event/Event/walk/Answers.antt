use Rattle.std.proofs.Common.{◌∙◌, ap, arith}
use Rattle.spec_lists.specs.Changes.{changes}
use Rattle.gl_event.specs.Heard.{Heard}
use Rattle.gl_event.specs.Changes.{changes_in, new_count}
use Rattle.gl_event.proofs.Cells.{changes_cells, new_count-cells}
use Rattle.gl_event.proofs.event.Event.walk.Goals as goal

pub returns-clause-changes : goal.returns-clause-changes
returns-clause-changes c =
    let ps = c.self.inside.delta.pieces in
    ap (changes_in 0) c.cells.ensures.cells ∙ (changes_cells ps 0 ∙ ap (λ (h : Heard). changes h.pieces) c.self.view_is)

pub returns-clause-few : goal.returns-clause-few
returns-clause-few c =
    let ps = c.self.inside.delta.pieces in
    let n = ap new_count c.cells.ensures.cells in
    omega (arith, n, new_count-cells ps, c.self.invariant.few)
