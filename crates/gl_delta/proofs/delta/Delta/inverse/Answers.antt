use Rattle.std.proofs.Common.{ap}
use Rattle.gl_delta.specs.Model.{DeltaModel}
use Rattle.gl_delta.specs.Pieces.{pieces}
use Rattle.gl_delta.proofs.InversePieces.{kept_inverse, is_inverse}
use Rattle.gl_delta.proofs.delta.Delta.inverse.Goals as goal

pub invariant_of-result : goal.invariant_of-result
invariant_of-result c =
    kept_inverse (pieces c.self.inside.store) (pieces c.inverted.result) c.self.inside.olds c.self.inside.news c.self.invariant c.inverted.ensures.pieces

pub returns-clause-pieces : goal.returns-clause-pieces
returns-clause-pieces c =
    is_inverse (pieces c.self.inside.store) (pieces c.inverted.result) c.args.self.pieces c.inverted.ensures.pieces (ap (λ (t : DeltaModel). t.pieces) c.self.view_is)
