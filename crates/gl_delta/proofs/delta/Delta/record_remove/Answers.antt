use Rattle.std.proofs.Common.{◌≡◌, ◌<◌, ap}
use Rattle.spec_lists.specs.Piece.{new_len}
use Rattle.gl_delta.specs.Model.{DeltaModel}
use Rattle.gl_delta.specs.Pieces.{pieces}
use Rattle.gl_delta.proofs.KeptPieces.{few_pieces, kept_removed}
use Rattle.gl_delta.proofs.delta.Delta.record_remove.Goals as goal

pub remove_at-requires-clause-few : goal.remove_at-requires-clause-few
remove_at-requires-clause-few c = few_pieces (pieces c.self.inside.store) c.self.inside.olds c.self.inside.news c.self.invariant

pub invariant_of-self-2 : goal.invariant_of-self-2
invariant_of-self-2 c =
    let ps = pieces c.self.inside.store in
    let is : ps ≡ c.args.self.now.pieces = ap (λ (t : DeltaModel). t.pieces) c.self.view_is in
    let within : c.args.at < new_len ps = rw is c.requires in
    kept_removed ps (pieces c.remove_at.new.store) c.self.inside.olds c.self.inside.news c.args.at c.args.old c.self.invariant c.in_ok-remove_at.ensures.ok within
