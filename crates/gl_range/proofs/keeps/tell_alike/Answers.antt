use Rattle.std.proofs.Common.{◌≡◌, ◌∙◌, ◌++◌, List, true, false, OnOk, ap, sym, subst}
use Rattle.spec_views.specs.Piece.{Piece, normal}
use Rattle.gl_kernel.specs.Plans.{CanTell}
use Rattle.gl_range.specs.Told.{told_alike}
use Rattle.gl_range.proofs.Kept.{all_kept, all_hidden}
use Rattle.gl_range.proofs.keeps.tell_alike.Goals as goal

pub tell-requires : goal.tell-requires
tell-requires g c =
    let ys = g.S.Shelf.items c.args.input.now in
    let told = ap (λ b. told_alike ys b c.args.is c.args.position c.args.n) c.in-true-true.is-0
    ∙ (ap (λ b. told_alike ys true b c.args.position c.args.n) c.in-true-true.is-1 ∙ all_kept ys c.args.position c.args.n) in
    let Can : List Piece → Type 0 = λ ps. CanTell ps c.args.out.now.pieces in
    subst Can told c.requires.can

pub returns-in-true-true : goal.returns-in-true-true
returns-in-true-true g c =
    let ys = g.S.Shelf.items c.args.input.now in
    let told = ap (λ b. told_alike ys b c.args.is c.args.position c.args.n) c.in-true-true.is-0
    ∙ (ap (λ b. told_alike ys true b c.args.position c.args.n) c.in-true-true.is-1 ∙ all_kept ys c.args.position c.args.n) in
    let Told : List Piece → Type 0 = λ ps. OnOk c.tell.result (c.tell.new.out.pieces ≡ normal (c.args.out.now.pieces ++ ps)) in
    subst Told (sym told) c.tell.ensures

pub returns-in-false-false : goal.returns-in-false-false
returns-in-false-false g c =
    let ys = g.S.Shelf.items c.args.input.now in
    let told = ap (λ b. told_alike ys b c.args.is c.args.position c.args.n) c.in-false-false.is-0
    ∙ (ap (λ b. told_alike ys false b c.args.position c.args.n) c.in-false-false.is-1 ∙ all_hidden ys c.args.position c.args.n) in
    let Told : List Piece → Type 0 = λ ps. OnOk c.tell-in-false-false.result (c.tell-in-false-false.new.out.pieces ≡ normal (c.args.out.now.pieces ++ ps)) in
    subst Told (sym told) c.tell-in-false-false.ensures
