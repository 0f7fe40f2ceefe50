use Rattle.gl_delta.specs.Pieces.{pieces}
use Rattle.gl_delta.proofs.KeptPieces.{few_pieces}
use Rattle.gl_delta.proofs.delta.Delta.copy.Goals as goal

pub copy-requires : goal.copy-requires
copy-requires c = few_pieces (pieces c.self.inside.store) c.self.inside.olds c.self.inside.news c.self.invariant
