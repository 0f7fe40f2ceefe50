use Rattle.gl_delta.specs.Pieces.{pieces}
use Rattle.gl_delta.proofs.KeptPieces.{kept_identity}
use Rattle.gl_delta.proofs.delta.Delta.identity.Goals as goal

pub invariant_of-result : goal.invariant_of-result
invariant_of-result c = kept_identity (pieces c.in_ok-kept.field-0) c.args.len c.in_ok-kept.ensures c.requires
