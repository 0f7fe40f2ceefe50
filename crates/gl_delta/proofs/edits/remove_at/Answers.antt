use Rattle.std.proofs.Common.{◌≡◌, ◌∙◌, ◌++◌, ◌∷◌, List, Some, true, false, slice_get, take, drop, suc, ap, sym, subst}
use Rattle.std.specs.List.{insert, remove}
use Rattle.spec_lists.specs.Piece.{Piece, kept, deleted, new_len}
use Rattle.spec_lists.specs.Delta.{one_remove}
use Rattle.gl_delta.specs.Marks.{piece_of}
use Rattle.gl_delta.specs.Pieces.{pieces, is_inserted_piece, first_of, IsComposed}
use Rattle.gl_delta.proofs.Cuts.{kept_from_test, taken_put}
use Rattle.gl_delta.proofs.EditedPieces.{struck_parts, struck_kept, struck_changed, struck_inserted}
use Rattle.gl_delta.proofs.edits.remove_at.Goals as goal

pub settle-requires-clause-prefix : goal.settle-requires-clause-prefix
settle-requires-clause-prefix c =
    let parts = struck_parts (pieces c.args.store.now) (pieces c.replace_kept.new.store) c.select-position.result c.args.old c.requires.normal c.select-position.ensures.within c.in_default.ensures.ok in parts.0

pub settle-requires-clause-back : goal.settle-requires-clause-back
settle-requires-clause-back c =
    let parts = struck_parts (pieces c.args.store.now) (pieces c.replace_kept.new.store) c.select-position.result c.args.old c.requires.normal c.select-position.ensures.within c.in_default.ensures.ok in parts.1

pub returns-then-is_kept-clause-ok : goal.returns-then-is_kept-clause-ok
returns-then-is_kept-clause-ok c =
    let ps = pieces c.args.store.now in
    let i = c.select-position.result in
    let is : slice_get ps i ≡ Some kept = kept_from_test ps i (sym c.is_kept.ensures ∙ c.if-is_kept.true) in
    let P : List Piece → Type 0 = IsComposed ps (one_remove (new_len ps) c.args.at c.args.old) in
    subst P (sym c.settle.ensures.value) (struck_kept ps (pieces c.replace_kept.new.store) c.args.at i c.args.old c.select-position.ensures c.requires.normal is c.in_default.ensures.ok)

pub returns-then-is_inserted-clause-ok : goal.returns-then-is_inserted-clause-ok
returns-then-is_inserted-clause-ok c =
    let ps = pieces c.args.store.now in
    let i = c.select-position.result in
    let test : is_inserted_piece (slice_get ps i) ≡ true = sym c.is_inserted.ensures ∙ c.if-is_inserted.true in
    let P : List Piece → Type 0 = IsComposed ps (one_remove (new_len ps) c.args.at c.args.old) in
    subst P (sym c.take.ensures.rest) (struck_inserted ps c.args.at i c.args.old c.select-position.ensures c.requires.normal test)

pub settle-requires-2-clause-prefix : goal.settle-requires-2-clause-prefix
settle-requires-2-clause-prefix c =
    let ps = pieces c.args.store.now in
    let i = c.select-position.result in
    let x = c.take-change.result in
    let is : pieces c.put_back.new.self ≡ take i ps ++ deleted (first_of x) ∷ drop (suc i) ps =
    c.put_back.ensures.pieces ∙ (ap (λ qs. insert qs i (deleted c.first-2.result)) c.take-change.ensures.rest ∙ (ap (λ v. insert (remove ps i) i (deleted v)) c.first-2.ensures ∙ taken_put ps i (piece_of x) (deleted (first_of x)) c.take-change.ensures.taken)) in
    let parts = struck_parts ps (pieces c.put_back.new.self) i (first_of x) c.requires.normal c.select-position.ensures.within is in parts.0

pub settle-requires-2-clause-back : goal.settle-requires-2-clause-back
settle-requires-2-clause-back c =
    let ps = pieces c.args.store.now in
    let i = c.select-position.result in
    let x = c.take-change.result in
    let is : pieces c.put_back.new.self ≡ take i ps ++ deleted (first_of x) ∷ drop (suc i) ps =
    c.put_back.ensures.pieces ∙ (ap (λ qs. insert qs i (deleted c.first-2.result)) c.take-change.ensures.rest ∙ (ap (λ v. insert (remove ps i) i (deleted v)) c.first-2.ensures ∙ taken_put ps i (piece_of x) (deleted (first_of x)) c.take-change.ensures.taken)) in
    let parts = struck_parts ps (pieces c.put_back.new.self) i (first_of x) c.requires.normal c.select-position.ensures.within is in parts.1

pub returns-clause-ok : goal.returns-clause-ok
returns-clause-ok c =
    let ps = pieces c.args.store.now in
    let i = c.select-position.result in
    let x = c.take-change.result in
    let is : pieces c.put_back.new.self ≡ take i ps ++ deleted (first_of x) ∷ drop (suc i) ps =
    c.put_back.ensures.pieces ∙ (ap (λ qs. insert qs i (deleted c.first-2.result)) c.take-change.ensures.rest ∙ (ap (λ v. insert (remove ps i) i (deleted v)) c.first-2.ensures ∙ taken_put ps i (piece_of x) (deleted (first_of x)) c.take-change.ensures.taken)) in
    let test : is_inserted_piece (slice_get ps i) ≡ false = sym c.is_inserted.ensures ∙ c.if-is_inserted.false in
    let P : List Piece → Type 0 = IsComposed ps (one_remove (new_len ps) c.args.at c.args.old) in
    subst P (sym c.settle-2.ensures.value) (struck_changed ps (pieces c.put_back.new.self) c.args.at i x c.args.old c.select-position.ensures c.requires.normal c.take-change.ensures.taken test is)
