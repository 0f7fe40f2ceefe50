use Rattle.std.proofs.Common.{◌∙◌, List, sym, subst}
use Rattle.spec_lists.specs.Piece.{Piece, IsNormal}
use Rattle.gl_delta.specs.Pieces.{pieces}
use Rattle.gl_delta.proofs.EditedPieces.{inserted_at}
use Rattle.gl_delta.proofs.edits.insert_at.Goals as goal

pub returns-in-Ok-clause-ok : goal.returns-in-Ok-clause-ok
returns-in-Ok-clause-ok c =
    let g = inserted_at (pieces c.args.store.now) c.args.at c.select-position.result c.args.v c.select-position.ensures c.requires.normal in
    let N : List Piece → Type 0 = IsNormal in
    record { value = c.in-Ok.ensures.ok ∙ g.0; normal = subst N (sym c.in-Ok.ensures.ok) g.1 }
