use Rattle.std.proofs.Common.{◌∙◌, ◌∷◌, [], ◌++◌, ap, sym}
use Rattle.spec_lists.specs.Piece.{kept, updated, deleted, inserted}
use Rattle.std.proofs.lemmas.List.{append-nil}
use Rattle.gl_testing.proofs.Leads.{row_more}
use Rattle.gl_testing.proofs.change.add_row.Goals as goal

pub returns-in_ok-add-in-Keep-2-clause-delta : goal.returns-in_ok-add-in-Keep-2-clause-delta
returns-in_ok-add-in-Keep-2-clause-delta c =
    let change = c.args.change.now in
    row_more change.delta.pieces (kept ∷ []) _ change.before (_ ∷ []) _ change.after _ c.requires tt
    c.in_ok-push-in-Keep.ensures c.in_ok-add-in-Keep.ensures c.in_ok-add-in-Keep-2.ensures

pub returns-in_ok-add-in-Update-2-clause-delta : goal.returns-in_ok-add-in-Update-2-clause-delta
returns-in_ok-add-in-Update-2-clause-delta c =
    let change = c.args.change.now in
    row_more change.delta.pieces (updated c.num.result c.num-in-Update.result ∷ []) _ change.before (_ ∷ []) _ change.after _ c.requires (sym c.num.ensures, tt)
    c.in_ok-push-in-Update.ensures c.in_ok-add-in-Update.ensures
    (c.in_ok-add-in-Update-2.ensures ∙ ap (λ w. change.after ++ w ∷ []) (sym c.num-in-Update.ensures))

pub returns-in_ok-add-in-Delete-clause-delta : goal.returns-in_ok-add-in-Delete-clause-delta
returns-in_ok-add-in-Delete-clause-delta c =
    let change = c.args.change.now in
    row_more change.delta.pieces (deleted c.num-in-Delete.result ∷ []) _ change.before (_ ∷ []) _ change.after _ c.requires (sym c.num-in-Delete.ensures, tt)
    c.in_ok-push-in-Delete.ensures c.in_ok-add-in-Delete.ensures (sym (append-nil change.after))

pub returns-in_ok-add-in-Insert-clause-delta : goal.returns-in_ok-add-in-Insert-clause-delta
returns-in_ok-add-in-Insert-clause-delta c =
    let change = c.args.change.now in
    row_more change.delta.pieces (inserted c.num-in-Insert.result ∷ []) _ change.before [] _ change.after _ c.requires tt
    c.in_ok-push-in-Insert.ensures (sym (append-nil change.before))
    (c.in_ok-add-in-Insert.ensures ∙ ap (λ w. change.after ++ w ∷ []) (sym c.num-in-Insert.ensures))
