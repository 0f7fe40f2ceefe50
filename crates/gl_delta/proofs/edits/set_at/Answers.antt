use Rattle.std.proofs.Common.{◌≡◌, ◌∙◌, List, Some, slice_get, ap, sym, subst}
use Rattle.std.specs.List.{insert, remove}
use Rattle.spec_lists.specs.Piece.{Piece, kept, new_len}
use Rattle.spec_lists.specs.Delta.{one_set}
use Rattle.gl_delta.specs.declared.mark.Changed.{Changed}
use Rattle.gl_delta.specs.Marks.{piece_of}
use Rattle.gl_delta.specs.Pieces.{pieces, with_new, IsComposed}
use Rattle.gl_delta.proofs.Cuts.{kept_from_test}
use Rattle.gl_delta.proofs.EditedPieces.{set_changed, set_fresh, on_new}
use Rattle.gl_delta.proofs.edits.set_at.Goals as goal

pub returns-in-Ok-clause-ok : goal.returns-in-Ok-clause-ok
returns-in-Ok-clause-ok c =
    let ps = pieces c.args.store.now in
    let is : slice_get ps c.select-position.result ≡ Some kept = kept_from_test ps c.select-position.result (sym c.is_kept.ensures ∙ c.if-is_kept.true) in
    let made = set_fresh ps c.args.at c.select-position.result c.args.old c.args.new c.select-position.ensures c.requires.normal is in
    let P : List Piece → Type 0 = IsComposed ps (one_set (new_len ps) c.args.at c.args.old c.args.new) in
    subst P (sym c.in-Ok.ensures.ok) made

pub renewed-requires : goal.renewed-requires
renewed-requires c = on_new (pieces c.args.store.now) c.args.at c.select-position.result c.take-change.result c.select-position.ensures c.take-change.ensures.taken

pub returns-clause-ok : goal.returns-clause-ok
returns-clause-ok c =
    let ps = pieces c.args.store.now in
    let i = c.select-position.result in
    let made = set_changed ps c.args.at i c.take-change.result c.args.old c.args.new c.select-position.ensures c.requires.normal c.take-change.ensures.taken in
    let P : List Piece → Type 0 = IsComposed ps (one_set (new_len ps) c.args.at c.args.old c.args.new) in
    let is : pieces c.put_back.new.self ≡ insert (remove ps i) i (piece_of (with_new c.take-change.result c.args.new)) =
    c.put_back.ensures.pieces ∙ (ap (λ qs. insert qs i (piece_of c.renewed.result)) c.take-change.ensures.rest ∙ ap (λ (x : Changed). insert (remove ps i) i (piece_of x)) c.renewed.ensures) in
    subst P (sym is) made
