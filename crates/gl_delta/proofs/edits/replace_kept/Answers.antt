use Rattle.std.proofs.Common.{◌∙◌, ◌+◌, ◌≤◌, slice_get, ap, arith, rules}
use Rattle.std.specs.List.{insert, remove}
use Rattle.spec_lists.specs.Piece.{kept}
use Rattle.spec_lists.specs.Changes.{changed_len}
use Rattle.gl_delta.specs.Marks.{piece_of}
use Rattle.gl_delta.specs.Pieces.{pieces, room}
use Rattle.gl_delta.proofs.Cuts.{taken_put}
use Rattle.gl_delta.proofs.Stores.{changed_cut}
use Rattle.gl_delta.proofs.edits.replace_kept.Goals as goal

pub drop_kept-requires : goal.drop_kept-requires
drop_kept-requires c = ap (λ ps. slice_get ps c.args.position) c.reserve.ensures.pieces ∙ c.requires.kept

pub put_back-requires-clause-spare : goal.put_back-requires-clause-spare
put_back-requires-clause-spare c =
    let ps = pieces c.args.store.now in
    let reserved : changed_len (pieces c.reserve.new.self) + 1 ≤ room c.reserve.new.self = search rules in
    omega (arith, reserved, ap changed_len c.drop_kept.ensures.rest, ap changed_len c.reserve.ensures.pieces, ap (λ qs. changed_len (remove qs c.args.position)) c.reserve.ensures.pieces, changed_cut ps c.args.position kept c.requires.kept, c.drop_kept.ensures.room)

pub returns-clause-ok : goal.returns-clause-ok
returns-clause-ok c =
    let ps = pieces c.args.store.now in
    c.put_back.ensures.pieces
    ∙ (ap (λ qs. insert qs c.args.position (piece_of c.args.change)) (c.drop_kept.ensures.rest ∙ ap (λ qs. remove qs c.args.position) c.reserve.ensures.pieces)
    ∙ taken_put ps c.args.position kept (piece_of c.args.change) c.requires.kept)
