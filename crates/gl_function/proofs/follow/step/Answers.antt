use Rattle.std.proofs.Common.{◌∙◌, ◌∷◌, [], ◌++◌, ◌+◌, List, map, OnOk, ap, sym, subst, arith}
use Rattle.spec_views.specs.Piece.{Piece, updated, deleted, old_len, normal}
use Rattle.spec_views.specs.Cells.{pieces_in}
use Rattle.spec_views.proofs.Lengths.{old_len-identity}
use Rattle.spec_lang.specs.Func.{eval}
use Rattle.gl_delta.specs.declared.cell.CellRef.{CellRef}
use Rattle.gl_delta.specs.Cells.{cell_ref}
use Rattle.gl_kernel.specs.Fates.{fate, edits_of}
use Rattle.gl_kernel.specs.Plans.{CanTell, GoesOn}
use Rattle.gl_kernel.proofs.Spreads.{no_edits}
use Rattle.gl_kernel.proofs.Made.{append_nothing}
use Rattle.gl_function.specs.Told.{told_results}
use Rattle.gl_function.proofs.Tellings.{keeps_told, update_told, delete_told}
use Rattle.gl_function.proofs.follow.step.Goals as goal

pub tell-requires : goal.tell-requires
tell-requires c =
    let f = eval c.args.func.now in
    let vs = c.args.results.now.values in
    let position = c.args.plan.now.position in
    let told = ap (λ (k : CellRef). told_results f vs position (pieces_in (cell_ref k))) c.in-Keep.is ∙ keeps_told f vs position c.in-Keep.n in
    let Can : List Piece → Type 0 = λ qs. CanTell qs c.args.plan.now.out.pieces in
    subst Can told c.requires.can

pub overflow_add-plan : goal.overflow_add-plan
overflow_add-plan c = omega (arith, c.requires.within, c.requires.few, ap (λ (k : CellRef). old_len (pieces_in (cell_ref k))) c.in-Keep.is, old_len-identity c.in-Keep.n)

pub returns-in_ok-tell-in-Keep : goal.returns-in_ok-tell-in-Keep
returns-in_ok-tell-in-Keep c =
    let f = eval c.args.func.now in
    let vs = c.args.results.now.values in
    let position = c.args.plan.now.position in
    let n = c.in-Keep.n in
    let is = ap (λ (k : CellRef). pieces_in (cell_ref k)) c.in-Keep.is in
    let told = ap (told_results f vs position) is ∙ keeps_told f vs position n in
    record {
      told_is = c.in_ok-tell-in-Keep.ensures ∙ ap (λ qs. normal (c.args.plan.now.out.pieces ++ qs)) (sym told);
      edits_are = sym (ap (λ es. c.args.plan.now.log.items ++ es) (ap (λ qs. edits_of position (map (fate f) qs)) is ∙ no_edits f n position) ∙ append_nothing c.args.plan.now.log.items);
      position_is = omega (arith, ap old_len is, old_len-identity n);
    }

pub returns-in-Update : goal.returns-in-Update
returns-in-Update c =
    let f = eval c.args.func.now in
    let vs = c.args.results.now.values in
    let plan = c.args.plan.now in
    let v = c.in-Update._old.now in
    let w = c.in-Update.new.now in
    let qs : List Piece = updated v w ∷ [] in
    let told = update_told f vs plan.position c.element-old.result.now v w c.element-old.ensures in
    let Told : List Piece → Type 0 = λ ps. OnOk c.tell_updated.result (GoesOn ps (edits_of plan.position (map (fate f) qs)) (old_len qs) plan c.tell_updated.new.plan) in
    let ByCell : CellRef → Type 0 =
    λ k. OnOk c.tell_updated.result (GoesOn (told_results f vs plan.position (pieces_in (cell_ref k)))
    (edits_of plan.position (map (fate f) (pieces_in (cell_ref k)))) (old_len (pieces_in (cell_ref k))) plan c.tell_updated.new.plan) in
    subst ByCell (sym c.in-Update.is) (subst Told (sym told) c.tell_updated.ensures)

pub returns-in_ok-push-in-Delete : goal.returns-in_ok-push-in-Delete
returns-in_ok-push-in-Delete c =
    let f = eval c.args.func.now in
    let vs = c.args.results.now.values in
    let position = c.args.plan.now.position in
    let v = c.in-Delete._old.now in
    let is = ap (λ (k : CellRef). pieces_in (cell_ref k)) c.in-Delete.is in
    let told = ap (told_results f vs position) is ∙ delete_told f vs position c.element-old-in-Delete.result.now v c.element-old-in-Delete.ensures in
    record {
      told_is = c.in_ok-tell-in-Delete.ensures
          ∙ (ap (λ x. normal (c.args.plan.now.out.pieces ++ deleted x ∷ [])) c.in_ok-copy-in-Delete.ensures ∙ ap (λ qs. normal (c.args.plan.now.out.pieces ++ qs)) (sym told));
      edits_are = c.in_ok-push-in-Delete.ensures.items ∙ ap (λ es. c.args.plan.now.log.items ++ es) (sym (ap (λ qs. edits_of position (map (fate f) qs)) is));
      position_is = ap (λ k. position + k) (sym (ap old_len is));
    }
