use Rattle.std.proofs.Common.{◌≡◌, ◌∙◌, true, false, List, length, take, sym, subst, arith}
use Rattle.std.proofs.lemmas.List.{take_all}
use Rattle.std.proofs.lemmas.Result.{on_ok_weaker}
use Rattle.spec_lists.specs.Piece.{Piece, IsNormal}
use Rattle.gl_delta.specs.declared.mark.Side.TheVariants.{New}
use Rattle.gl_delta.specs.Marks.{piece_of, IsOn}
use Rattle.gl_delta.specs.Pieces.{pieces, IsPushed}
use Rattle.gl_delta.proofs.Settled.{IsRun}
use Rattle.gl_delta.proofs.Pushes.{pushed_new, pushed_deleted}
use Rattle.gl_delta.proofs.edits.push.Goals as goal

pub returns-then-is_on-clause-ok : goal.returns-then-is_on-clause-ok
returns-then-is_on-clause-ok c =
    let ps = pieces c.args.store.now in
    let test : IsOn New c.args.change ≡ true = sym c.is_on.ensures ∙ c.if-is_on.true in
    let P : List Piece → Type 0 = IsPushed ps (piece_of c.args.change) in
    on_ok_weaker c.append.result (λ e. subst P (sym e) (pushed_new ps c.args.change c.requires.normal test)) c.append.ensures.ok

pub run_start-position-requires-clause-prefix : goal.run_start-position-requires-clause-prefix
run_start-position-requires-clause-prefix c =
    let ps = pieces c.args.store.now in
    let N : List Piece → Type 0 = IsNormal in
    subst N (sym (take_all c.len.result ps (omega (arith, c.len.ensures)))) c.requires.normal

pub returns-clause-ok : goal.returns-clause-ok
returns-clause-ok c =
    let ps = pieces c.args.store.now in
    let test : IsOn New c.args.change ≡ false = sym c.is_on.ensures ∙ c.if-is_on.false in
    let r : IsRun ps c.run_start-position.result c.len.result = record { within = c.run_start-position.ensures.within; run = c.run_start-position.ensures.run; before = c.run_start-position.ensures.before } in
    let P : List Piece → Type 0 = IsPushed ps (piece_of c.args.change) in
    on_ok_weaker c.put.result (λ e. subst P (sym e) (pushed_deleted ps c.args.change c.run_start-position.result c.len.result c.len.ensures c.requires.normal test r)) c.put.ensures.ok
