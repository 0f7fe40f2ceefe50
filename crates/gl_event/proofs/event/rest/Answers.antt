use Rattle.std.proofs.Common.{◌∙◌, ap, arith}
use Rattle.spec_lists.specs.Changes.{after_changes}
use Rattle.gl_event.specs.Changes.{changes_in, new_count}
use Rattle.gl_event.proofs.Cells.{changes_cells, new_count-cells}
use Rattle.gl_event.proofs.Blocks.{changes_left, new_len-standing}
use Rattle.gl_event.proofs.event.rest.Goals as goal

pub returns-clause-changes : goal.returns-clause-changes
returns-clause-changes c =
    let ps = c.args.delta.now.pieces in
    ap (changes_in c.args.at) c.cells_from.ensures
    ∙ (changes_cells (after_changes c.args.given ps) c.args.at ∙ changes_left ps c.args.given c.args.at c.requires.stands c.requires.within)

pub returns-clause-few : goal.returns-clause-few
returns-clause-few c =
    let ps = c.args.delta.now.pieces in
    let n = ap new_count c.cells_from.ensures in
    omega (arith, n, new_count-cells (after_changes c.args.given ps), new_len-standing ps c.args.given c.requires.within, c.requires.stands, c.requires.few)
