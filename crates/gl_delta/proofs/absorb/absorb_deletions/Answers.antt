use Rattle.std.proofs.Common.{◌≤◌, arith}
use Rattle.spec_lists.specs.Changes.{changed_len}
use Rattle.gl_delta.specs.Pieces.{pieces}
use Rattle.gl_delta.proofs.Cursors.{passed_all}
use Rattle.gl_delta.proofs.absorb.absorb_deletions.Goals as goal

pub returns-clause-none_deleted : goal.returns-clause-none_deleted
returns-clause-none_deleted c =
    let q = pieces c.deletions.next in
    let all : changed_len q ≤ c.deletions.cursor.changes = omega (arith, c.deletions-test.false, c.changes.ensures) in
    passed_all q c.deletions.cursor c.deletions.invariant.cursor all
