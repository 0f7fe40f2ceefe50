use Rattle.std.proofs.Common.{◌≡◌, ◌+◌, ◌≤◌, ap, arith}
use Rattle.spec_lists.specs.Piece.{old_len, new_len}
use Rattle.gl_delta.specs.Model.{DeltaModel}
use Rattle.gl_delta.specs.Pieces.{pieces}
use Rattle.gl_delta.proofs.KeptPieces.{few_more, kept_inserted}
use Rattle.gl_delta.proofs.delta.Delta.record_insert.Goals as goal

pub insert_at-requires-clause-few : goal.insert_at-requires-clause-few
insert_at-requires-clause-few c =
    let ps = pieces c.self.inside.store in
    let is : ps ≡ c.args.self.now.pieces = ap (λ (t : DeltaModel). t.pieces) c.self.view_is in
    let few : new_len ps + 1 ≤ 2147483647 = rw is c.requires.few in
    let old : old_len ps + 0 ≤ 2147483647 = omega (arith, c.self.invariant.olds_is, c.self.invariant.olds_few) in
    few_more ps c.self.inside.olds c.self.inside.news 0 1 c.self.invariant old few (omega arith)

pub invariant_of-self-2 : goal.invariant_of-self-2
invariant_of-self-2 c =
    let ps = pieces c.self.inside.store in
    let is : ps ≡ c.args.self.now.pieces = ap (λ (t : DeltaModel). t.pieces) c.self.view_is in
    let within : c.args.at ≤ new_len ps = rw is c.requires.within in
    let few : new_len ps + 1 ≤ 2147483647 = rw is c.requires.few in
    kept_inserted ps (pieces c.insert_at.new.store) c.self.inside.olds c.self.inside.news c.args.at c.args.v c.self.invariant c.in_ok-insert_at.ensures.ok within few
