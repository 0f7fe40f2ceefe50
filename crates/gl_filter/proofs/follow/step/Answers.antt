use Rattle.std.proofs.Common.{◌∙◌, ◌∷◌, [], ◌++◌, ◌+◌, ◌≤◌, List, length, drop, ap, sym, subst, arith}
use Rattle.spec_views.specs.Piece.{Piece, updated, old_len, normal}
use Rattle.spec_views.specs.Cells.{pieces_in}
use Rattle.spec_views.proofs.Lengths.{old_len-identity}
use Rattle.spec_views.specs.Matcher.{accepts}
use Rattle.spec_views.specs.Chosen.{told_of_pair}
use Rattle.gl_delta.specs.declared.cell.CellRef.{CellRef}
use Rattle.gl_delta.specs.Cells.{cell_ref}
use Rattle.gl_kernel.specs.Fates.{edits_of}
use Rattle.gl_kernel.specs.Plans.{CanTell}
use Rattle.gl_kernel.proofs.Made.{append_nothing}
use Rattle.gl_filter.specs.Told.{told_marks, switch, fates, asked}
use Rattle.gl_filter.proofs.Tellings.{asked-keeps}
use Rattle.gl_filter.proofs.Shown.{keep_told, ranks_grow, update_told, delete_told}
use Rattle.gl_filter.proofs.ShownMarks.{no_edits_kept, update_edits, delete_edits}
use Rattle.gl_filter.proofs.follow.step.Goals as goal

pub overflow_add-position : goal.overflow_add-position
overflow_add-position g c = omega (arith, c.requires.within, c.requires.few, ap (λ (k : CellRef). old_len (pieces_in (cell_ref k))) c.in-Keep.is, old_len-identity c.in-Keep.n)

pub rank-requires : goal.rank-requires
rank-requires g c = omega (arith, c.requires.within, ap (λ (k : CellRef). old_len (pieces_in (cell_ref k))) c.in-Keep.is, old_len-identity c.in-Keep.n)

pub overflow_sub-shown : goal.overflow_sub-shown
overflow_sub-shown g c = ranks_grow c.args.marks.now.shown c.args.plan.now.position c.in-Keep.n c.rank-in-Keep.result c.rank.result c.rank-in-Keep.ensures c.rank.ensures

pub tell-requires : goal.tell-requires
tell-requires g c =
    let bs = c.args.marks.now.shown in
    let position = c.args.plan.now.position in
    let n = c.in-Keep.n in
    let acc = accepts c.args.matcher.now in
    let is = ap (λ (k : CellRef). pieces_in (cell_ref k)) c.in-Keep.is in
    let within : position + n ≤ length bs = omega (arith, c.requires.within, ap old_len is, old_len-identity n) in
    let told = ap (told_marks acc (drop position bs)) is ∙ keep_told acc bs position n c.rank-in-Keep.result c.rank.result within c.rank-in-Keep.ensures c.rank.ensures in
    let Can : List Piece → Type 0 = λ qs. CanTell qs c.args.plan.now.out.pieces in
    subst Can told c.requires.can

pub returns-in_err-tell-in-Keep-clause-counted : goal.returns-in_err-tell-in-Keep-clause-counted
returns-in_err-tell-in-Keep-clause-counted g c = omega (arith, ap (λ (k : CellRef). asked (pieces_in (cell_ref k))) c.in-Keep.is, asked-keeps c.in-Keep.n)

pub overflow_add-plan : goal.overflow_add-plan
overflow_add-plan g c = omega (arith, c.requires.within, c.requires.few, ap (λ (k : CellRef). old_len (pieces_in (cell_ref k))) c.in-Keep.is, old_len-identity c.in-Keep.n)

pub tell_update-requires : goal.tell_update-requires
tell_update-requires g c =
    let bs = c.args.marks.now.shown in
    let position = c.args.plan.now.position in
    let acc = accepts c.args.matcher.now in
    let v = c.in-Update.old.now in
    let w = c.in-Update.new.now in
    let told = ap (λ (k : CellRef). told_marks acc (drop position bs) (pieces_in (cell_ref k))) c.in-Update.is
    ∙ (update_told acc bs position c.shown-was.result v w c.shown-was.ensures ∙ ap (λ b. told_of_pair c.shown-was.result b (updated v w) v w []) (sym c.accepts-is.ensures.value)) in
    let Can : List Piece → Type 0 = λ qs. CanTell qs c.args.plan.now.out.pieces in
    subst Can told c.requires.can

pub tell_delete-requires : goal.tell_delete-requires
tell_delete-requires g c =
    let bs = c.args.marks.now.shown in
    let position = c.args.plan.now.position in
    let acc = accepts c.args.matcher.now in
    let v = c.in-Delete.old.now in
    let told = ap (λ (k : CellRef). told_marks acc (drop position bs) (pieces_in (cell_ref k))) c.in-Delete.is ∙ delete_told acc bs position c.shown.result v c.shown.ensures in
    let Can : List Piece → Type 0 = λ qs. CanTell qs c.args.plan.now.out.pieces in
    subst Can told c.requires.can

pub returns-in_ok-tell-in-Keep-clause-ok : goal.returns-in_ok-tell-in-Keep-clause-ok
returns-in_ok-tell-in-Keep-clause-ok g c =
    let bs = c.args.marks.now.shown in
    let position = c.args.plan.now.position in
    let n = c.in-Keep.n in
    let acc = accepts c.args.matcher.now in
    let is = ap (λ (k : CellRef). pieces_in (cell_ref k)) c.in-Keep.is in
    let within : position + n ≤ length bs = omega (arith, c.requires.within, ap old_len is, old_len-identity n) in
    let told = ap (told_marks acc (drop position bs)) is ∙ keep_told acc bs position n c.rank-in-Keep.result c.rank.result within c.rank-in-Keep.ensures c.rank.ensures in
    record {
      told_is = c.in_ok-tell-in-Keep.ensures ∙ ap (λ qs. normal (c.args.plan.now.out.pieces ++ qs)) (sym told);
      edits_are = sym (ap (λ es. c.args.plan.now.log.items ++ es) (ap (λ qs. edits_of position (fates acc (drop position bs) qs)) is ∙ no_edits_kept acc (drop position bs) n position) ∙ append_nothing c.args.plan.now.log.items);
      position_is = omega (arith, ap old_len is, old_len-identity n);
    }

pub returns-in_ok-tell-in-Keep-clause-counted : goal.returns-in_ok-tell-in-Keep-clause-counted
returns-in_ok-tell-in-Keep-clause-counted g c = omega (arith, ap (λ (k : CellRef). asked (pieces_in (cell_ref k))) c.in-Keep.is, asked-keeps c.in-Keep.n)

pub returns-in_ok-note-in-Update-clause-ok : goal.returns-in_ok-note-in-Update-clause-ok
returns-in_ok-note-in-Update-clause-ok g c =
    let bs = c.args.marks.now.shown in
    let position = c.args.plan.now.position in
    let acc = accepts c.args.matcher.now in
    let v = c.in-Update.old.now in
    let w = c.in-Update.new.now in
    let is = ap (λ (k : CellRef). pieces_in (cell_ref k)) c.in-Update.is in
    let told = ap (told_marks acc (drop position bs)) is
    ∙ (update_told acc bs position c.shown-was.result v w c.shown-was.ensures ∙ ap (λ b. told_of_pair c.shown-was.result b (updated v w) v w []) (sym c.accepts-is.ensures.value)) in
    let edits = ap (λ qs. edits_of position (fates acc (drop position bs) qs)) is
    ∙ (update_edits acc bs position c.shown-was.result v w c.shown-was.ensures ∙ ap (λ b. edits_of position (switch c.shown-was.result b ∷ [])) (sym c.accepts-is.ensures.value)) in
    record {
      told_is = c.in_ok-tell_update-in-Update.ensures ∙ ap (λ qs. normal (c.args.plan.now.out.pieces ++ qs)) (sym told);
      edits_are = c.in_ok-note-in-Update.ensures ∙ ap (λ es. c.args.plan.now.log.items ++ es) (sym edits);
      position_is = ap (λ k. position + k) (sym (ap old_len is));
    }

pub returns-in_ok-push-in-Delete-clause-ok : goal.returns-in_ok-push-in-Delete-clause-ok
returns-in_ok-push-in-Delete-clause-ok g c =
    let bs = c.args.marks.now.shown in
    let position = c.args.plan.now.position in
    let acc = accepts c.args.matcher.now in
    let v = c.in-Delete.old.now in
    let is = ap (λ (k : CellRef). pieces_in (cell_ref k)) c.in-Delete.is in
    let told = ap (told_marks acc (drop position bs)) is ∙ delete_told acc bs position c.shown.result v c.shown.ensures in
    record {
      told_is = c.in_ok-tell_delete-in-Delete.ensures ∙ ap (λ qs. normal (c.args.plan.now.out.pieces ++ qs)) (sym told);
      edits_are = c.in_ok-push-in-Delete.ensures.items ∙ ap (λ es. c.args.plan.now.log.items ++ es) (sym (ap (λ qs. edits_of position (fates acc (drop position bs) qs)) is ∙ delete_edits acc bs position c.shown.result v c.shown.ensures));
      position_is = ap (λ k. position + k) (sym (ap old_len is));
    }
