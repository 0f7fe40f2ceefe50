use Rattle.std.proofs.Common.{◌≡◌, ◌∙◌, ◌+◌, ◌-◌, ◌≤◌, ◌++◌, List, length, map, sum, take, drop, refl, ap, sym, subst, arith}
use Rattle.std.proofs.lemmas.List.{length-drop, append-nil}
use Rattle.gl_joined.specs.Piece.{Piece, inserted, identity, old_len, new_len, normal}
use Rattle.gl_joined.specs.Cells.{pieces_in}
use Rattle.gl_joined.proofs.Lengths.{old_len-identity}
use Rattle.spec_lang.specs.Kids.{kids}
use Rattle.gl_delta.specs.declared.cell.CellRef.{CellRef}
use Rattle.gl_delta.specs.Cells.{cell_ref}
use Rattle.gl_joined.proofs.Lengths.{new_len-inserted}
use Rattle.gl_kernel.specs.Fates.{fate, edits_of}
use Rattle.gl_kernel.specs.Plans.{CanTell}
use Rattle.gl_kernel.proofs.Spreads.{no_edits}
use Rattle.gl_kernel.proofs.Made.{append_nothing}
use Rattle.gl_collection.specs.Told.{child_len, child_updates, told_children}
use Rattle.gl_collection.proofs.Told.{keeps_told, sum_between, updates_news}
use Rattle.gl_collection.proofs.follow.step.Goals as goal

pub overflow_add-plan : goal.overflow_add-plan
overflow_add-plan c = omega (arith, c.requires.within, c.requires.few, ap (λ (k : CellRef). old_len (pieces_in (cell_ref k))) c.in-Keep.is, old_len-identity c.in-Keep.n)

pub before-requires-clause-within : goal.before-requires-clause-within
before-requires-clause-within c = omega (arith, c.requires.within, ap (λ (k : CellRef). old_len (pieces_in (cell_ref k))) c.in-Keep.is, old_len-identity c.in-Keep.n)

pub overflow_sub-children : goal.overflow_sub-children
overflow_sub-children c =
    let position = c.args.plan.now.position in
    let n = c.in-Keep.n in
    omega (arith, c.before-in-Keep.ensures, c.before-in-Keep-2.ensures, sum_between c.args.lens.now.lens position n (position + n) refl)

pub tell-requires : goal.tell-requires
tell-requires c =
    let f = kids c.args.model.now in
    let lens = c.args.lens.now.lens in
    let position = c.args.plan.now.position in
    let n = c.in-Keep.n in
    let children = c.before-in-Keep.result - c.before-in-Keep-2.result in
    let is = ap (λ (k : CellRef). pieces_in (cell_ref k)) c.in-Keep.is in
    let low : n ≤ length (drop position lens) = omega (arith, c.requires.within, ap old_len is, old_len-identity n, length-drop position lens) in
    let count : sum (take n (drop position lens)) ≡ children = omega (arith, c.before-in-Keep.ensures, c.before-in-Keep-2.ensures, sum_between lens position n (position + n) refl) in
    let told : told_children f (drop position lens) (pieces_in (cell_ref c.args.cell)) ≡ identity children =
    ap (told_children f (drop position lens)) is ∙ (keeps_told f n (drop position lens) low ∙ ap identity count) in
    let Can : List Piece → Type 0 = λ qs. CanTell qs c.args.plan.now.out.pieces in
    subst Can told c.requires.can

pub overflow_add-plan-in-Keep : goal.overflow_add-plan-in-Keep
overflow_add-plan-in-Keep c = omega (arith, c.requires.within, c.requires.few, ap (λ (k : CellRef). old_len (pieces_in (cell_ref k))) c.in-Keep.is, old_len-identity c.in-Keep.n)

pub overflow_cast-news : goal.overflow_cast-news
overflow_cast-news c =
    let f = kids c.args.model.now in
    let left = drop c.args.plan.now.position c.args.lens.now.lens in
    let told = child_updates (f c.in-Update.old.now) (f c.in-Update.new.now) in
    let is = ap (λ (k : CellRef). new_len (told_children f left (pieces_in (cell_ref k)))) c.in-Update.is in
    omega (arith, c.requires.can.news, is, ap new_len (append-nil told), updates_news (f c.in-Update.old.now) (f c.in-Update.new.now), ap length c.of-news.ensures)

pub overflow_cast-news-in-Insert : goal.overflow_cast-news-in-Insert
overflow_cast-news-in-Insert c =
    let f = kids c.args.model.now in
    let left = drop c.args.plan.now.position c.args.lens.now.lens in
    let told = map inserted (f c.in-Insert.new.now) in
    let is = ap (λ (k : CellRef). new_len (told_children f left (pieces_in (cell_ref k)))) c.in-Insert.is in
    omega (arith, c.requires.can.news, is, ap new_len (append-nil told), new_len-inserted (f c.in-Insert.new.now), ap length c.of-news-in-Insert.ensures)

pub returns-in_ok-tell-in-Keep : goal.returns-in_ok-tell-in-Keep
returns-in_ok-tell-in-Keep c =
    let f = kids c.args.model.now in
    let lens = c.args.lens.now.lens in
    let position = c.args.plan.now.position in
    let n = c.in-Keep.n in
    let children = c.before-in-Keep.result - c.before-in-Keep-2.result in
    let is = ap (λ (k : CellRef). pieces_in (cell_ref k)) c.in-Keep.is in
    let low : n ≤ length (drop position lens) = omega (arith, c.requires.within, ap old_len is, old_len-identity n, length-drop position lens) in
    let count : sum (take n (drop position lens)) ≡ children = omega (arith, c.before-in-Keep.ensures, c.before-in-Keep-2.ensures, sum_between lens position n (position + n) refl) in
    let told : told_children f (drop position lens) (pieces_in (cell_ref c.args.cell)) ≡ identity children =
    ap (told_children f (drop position lens)) is ∙ (keeps_told f n (drop position lens) low ∙ ap identity count) in
    let log = c.args.plan.now.log.items in
    record {
      told_is = c.in_ok-tell-in-Keep.ensures ∙ ap (λ qs. normal (c.args.plan.now.out.pieces ++ qs)) (sym told);
      edits_are = sym (ap (λ es. log ++ es) (ap (λ qs. edits_of position (map (fate (child_len f)) qs)) is ∙ no_edits (child_len f) n position) ∙ append_nothing log);
      position_is = omega (arith, ap old_len is, old_len-identity n);
    }
