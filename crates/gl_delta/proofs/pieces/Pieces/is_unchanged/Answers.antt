use Rattle.std.proofs.Common.{◌∙◌, sym}
use Rattle.gl_delta.proofs.CellRuns.{unchanged_is, unchanged_from, zero_from_test, test_from_zero}
use Rattle.gl_delta.proofs.pieces.Pieces.is_unchanged.Goals as goal

pub returns : goal.returns
returns c =
    let ps = c.args.self.now.pieces in (
      λ t. unchanged_is ps (sym c.changes.ensures ∙ zero_from_test c.changes.result t),
      λ e. test_from_zero c.changes.result (c.changes.ensures ∙ unchanged_from ps e),
    )
