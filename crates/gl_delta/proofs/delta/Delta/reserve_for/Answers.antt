use Rattle.std.proofs.Common.{ap, arith}
use Rattle.spec_lists.specs.Changes.{changed_len}
use Rattle.spec_lists.proofs.ChangeCounts.{cells_few}
use Rattle.gl_delta.specs.Model.{DeltaModel}
use Rattle.gl_delta.specs.Pieces.{pieces}
use Rattle.gl_delta.proofs.delta.Delta.reserve_for.Goals as goal

pub returns-clause-ok : goal.returns-clause-ok
returns-clause-ok c =
    let ps = pieces c.reserve.new.self in
    let qs = c.args.next.now.pieces in
    let is = ap changed_len c.reserve.ensures.pieces in
    let seen = ap (λ (t : DeltaModel). changed_len t.pieces) c.self.view_is in
    omega (arith, is, seen, (cells_few ps).all, (cells_few qs).all, c.changes.ensures.value, c.changes-2.ensures.value, c.in_ok-reserve.ensures.ok)
