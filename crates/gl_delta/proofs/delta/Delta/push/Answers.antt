use Rattle.std.proofs.Common.{◌≡◌, ◌∙◌, ◌+◌, ◌≤◌, ◌++◌, ◌∷◌, [], ap, sym, arith}
use Rattle.spec_lists.specs.Piece.{updated, deleted, inserted, old_len, new_len, normal, identity}
use Rattle.spec_lists.specs.Cells.{pieces_in}
use Rattle.spec_lists.proofs.Normal.{normal_is}
use Rattle.gl_delta.specs.declared.cell.Cell.{Cell}
use Rattle.gl_delta.specs.declared.cell.Cell.TheVariants.{Keep, Update, Delete, Insert}
use Rattle.gl_delta.specs.Cells.{cell_of}
use Rattle.gl_delta.specs.Model.{DeltaModel}
use Rattle.gl_delta.specs.Pieces.{pieces}
use Rattle.gl_delta.proofs.KeptPieces.{few_more, kept_pushed, kept_more, keeps_fit, fits_at, normal_keep}
use Rattle.gl_delta.proofs.delta.Delta.push.Goals as goal

pub keep-requires : goal.keep-requires
keep-requires c =
    let ps = pieces c.self.inside.store in
    let is : ps ≡ c.args.self.now.pieces = ap (λ (t : DeltaModel). t.pieces) c.self.view_is in
    let fits = keeps_fit ps c.self.inside.olds c.self.inside.news c.in-Keep.n c.self.invariant (fits_at old_len ps c.args.self.now.pieces c.args.c (Keep c.in-Keep.n) is c.in-Keep.is c.requires.olds) (fits_at new_len ps c.args.self.now.pieces c.args.c (Keep c.in-Keep.n) is c.in-Keep.is c.requires.news) in
    fits.0

pub overflow_add-self : goal.overflow_add-self
overflow_add-self c =
    let ps = pieces c.self.inside.store in
    let is : ps ≡ c.args.self.now.pieces = ap (λ (t : DeltaModel). t.pieces) c.self.view_is in
    let fits = keeps_fit ps c.self.inside.olds c.self.inside.news c.in-Keep.n c.self.invariant (fits_at old_len ps c.args.self.now.pieces c.args.c (Keep c.in-Keep.n) is c.in-Keep.is c.requires.olds) (fits_at new_len ps c.args.self.now.pieces c.args.c (Keep c.in-Keep.n) is c.in-Keep.is c.requires.news) in
    let few : c.self.inside.olds + c.in-Keep.n ≤ 2147483647 = fits.1 in omega arith

pub overflow_add-self-in-Ok : goal.overflow_add-self-in-Ok
overflow_add-self-in-Ok c =
    let ps = pieces c.self.inside.store in
    let is : ps ≡ c.args.self.now.pieces = ap (λ (t : DeltaModel). t.pieces) c.self.view_is in
    let fits = keeps_fit ps c.self.inside.olds c.self.inside.news c.in-Keep.n c.self.invariant (fits_at old_len ps c.args.self.now.pieces c.args.c (Keep c.in-Keep.n) is c.in-Keep.is c.requires.olds) (fits_at new_len ps c.args.self.now.pieces c.args.c (Keep c.in-Keep.n) is c.in-Keep.is c.requires.news) in
    let few : c.self.inside.news + c.in-Keep.n ≤ 2147483647 = fits.2 in omega arith

pub invariant_of-self : goal.invariant_of-self
invariant_of-self c =
    let ps = pieces c.self.inside.store in
    let is : ps ≡ c.args.self.now.pieces = ap (λ (t : DeltaModel). t.pieces) c.self.view_is in
    let kept_is : pieces c.keep.new.self ≡ ps ++ identity c.in-Keep.n = c.in-Ok.ensures.ok in
    kept_more ps (pieces c.keep.new.self) c.self.inside.olds c.self.inside.news c.in-Keep.n c.self.invariant kept_is (fits_at old_len ps c.args.self.now.pieces c.args.c (Keep c.in-Keep.n) is c.in-Keep.is c.requires.olds) (fits_at new_len ps c.args.self.now.pieces c.args.c (Keep c.in-Keep.n) is c.in-Keep.is c.requires.news)

pub push-requires-clause-few : goal.push-requires-clause-few
push-requires-clause-few c =
    let ps = pieces c.self.inside.store in
    let is : ps ≡ c.args.self.now.pieces = ap (λ (t : DeltaModel). t.pieces) c.self.view_is in
    few_more ps c.self.inside.olds c.self.inside.news (old_len (updated c.in-Update.v c.in-Update.w ∷ [])) (new_len (updated c.in-Update.v c.in-Update.w ∷ [])) c.self.invariant (fits_at old_len ps c.args.self.now.pieces c.args.c (Update c.in-Update.v c.in-Update.w) is c.in-Update.is c.requires.olds) (fits_at new_len ps c.args.self.now.pieces c.args.c (Update c.in-Update.v c.in-Update.w) is c.in-Update.is c.requires.news) (omega arith)

pub invariant_of-self-in-Ok-push : goal.invariant_of-self-in-Ok-push
invariant_of-self-in-Ok-push c =
    let ps = pieces c.self.inside.store in
    let is : ps ≡ c.args.self.now.pieces = ap (λ (t : DeltaModel). t.pieces) c.self.view_is in
    kept_pushed ps (pieces c.push.new.store) (updated c.in-Update.v c.in-Update.w) c.self.inside.olds c.self.inside.news _ _ c.self.invariant c.in-Ok-push.ensures.ok (omega arith) (omega arith) (fits_at old_len ps c.args.self.now.pieces c.args.c (Update c.in-Update.v c.in-Update.w) is c.in-Update.is c.requires.olds) (fits_at new_len ps c.args.self.now.pieces c.args.c (Update c.in-Update.v c.in-Update.w) is c.in-Update.is c.requires.news)

pub push-requires-in-Delete-clause-few : goal.push-requires-in-Delete-clause-few
push-requires-in-Delete-clause-few c =
    let ps = pieces c.self.inside.store in
    let is : ps ≡ c.args.self.now.pieces = ap (λ (t : DeltaModel). t.pieces) c.self.view_is in
    few_more ps c.self.inside.olds c.self.inside.news (old_len (deleted c.in-Delete.v ∷ [])) (new_len (deleted c.in-Delete.v ∷ [])) c.self.invariant (fits_at old_len ps c.args.self.now.pieces c.args.c (Delete c.in-Delete.v) is c.in-Delete.is c.requires.olds) (fits_at new_len ps c.args.self.now.pieces c.args.c (Delete c.in-Delete.v) is c.in-Delete.is c.requires.news) (omega arith)

pub invariant_of-self-in-Ok-push-2 : goal.invariant_of-self-in-Ok-push-2
invariant_of-self-in-Ok-push-2 c =
    let ps = pieces c.self.inside.store in
    let is : ps ≡ c.args.self.now.pieces = ap (λ (t : DeltaModel). t.pieces) c.self.view_is in
    kept_pushed ps (pieces c.push-in-Delete.new.store) (deleted c.in-Delete.v) c.self.inside.olds c.self.inside.news _ _ c.self.invariant c.in-Ok-push-2.ensures.ok (omega arith) (omega arith) (fits_at old_len ps c.args.self.now.pieces c.args.c (Delete c.in-Delete.v) is c.in-Delete.is c.requires.olds) (fits_at new_len ps c.args.self.now.pieces c.args.c (Delete c.in-Delete.v) is c.in-Delete.is c.requires.news)

pub push-requires-in-Insert-clause-few : goal.push-requires-in-Insert-clause-few
push-requires-in-Insert-clause-few c =
    let ps = pieces c.self.inside.store in
    let is : ps ≡ c.args.self.now.pieces = ap (λ (t : DeltaModel). t.pieces) c.self.view_is in
    few_more ps c.self.inside.olds c.self.inside.news (old_len (inserted c.in-Insert.w ∷ [])) (new_len (inserted c.in-Insert.w ∷ [])) c.self.invariant (fits_at old_len ps c.args.self.now.pieces c.args.c (Insert c.in-Insert.w) is c.in-Insert.is c.requires.olds) (fits_at new_len ps c.args.self.now.pieces c.args.c (Insert c.in-Insert.w) is c.in-Insert.is c.requires.news) (omega arith)

pub invariant_of-self-in-Ok-push-3 : goal.invariant_of-self-in-Ok-push-3
invariant_of-self-in-Ok-push-3 c =
    let ps = pieces c.self.inside.store in
    let is : ps ≡ c.args.self.now.pieces = ap (λ (t : DeltaModel). t.pieces) c.self.view_is in
    kept_pushed ps (pieces c.push-in-Insert.new.store) (inserted c.in-Insert.w) c.self.inside.olds c.self.inside.news _ _ c.self.invariant c.in-Ok-push-3.ensures.ok (omega arith) (omega arith) (fits_at old_len ps c.args.self.now.pieces c.args.c (Insert c.in-Insert.w) is c.in-Insert.is c.requires.olds) (fits_at new_len ps c.args.self.now.pieces c.args.c (Insert c.in-Insert.w) is c.in-Insert.is c.requires.news)

pub returns-in-Ok-clause-ok : goal.returns-in-Ok-clause-ok
returns-in-Ok-clause-ok c =
    let ps = pieces c.self.inside.store in
    let is : ps ≡ c.args.self.now.pieces = ap (λ (t : DeltaModel). t.pieces) c.self.view_is in
    let kept_is : pieces c.keep.new.self ≡ ps ++ identity c.in-Keep.n = c.in-Ok.ensures.ok in
    kept_is
    ∙ (sym (normal_is _ (normal_keep ps c.in-Keep.n c.self.invariant.normal))
    ∙ (ap (λ qs. normal (qs ++ identity c.in-Keep.n)) is ∙ ap (λ (k : Cell). normal (c.args.self.now.pieces ++ pieces_in (cell_of k))) (sym c.in-Keep.is)))
