use Rattle.std.proofs.Common.{◌≡◌, ◌∙◌, ◌≤◌, ℕ, List, take, min, ap, sym, subst, arith}
use Rattle.spec_lists.specs.Piece.{Piece, new_len}
use Rattle.spec_lists.specs.Sides.{news}
use Rattle.gl_delta.specs.Model.{DeltaModel}
use Rattle.gl_delta.specs.Part.{plain_len}
use Rattle.gl_delta.specs.Pieces.{pieces}
use Rattle.gl_delta.proofs.PlainPairs.{before_is, before_few}
use Rattle.gl_delta.proofs.plain.plain_before.Goals as goal

pub returns-clause-value : goal.returns-clause-value
returns-clause-value c =
    let same : pieces c.delta.inside.store ≡ c.args.delta.now.pieces = ap (λ (t : DeltaModel). t.pieces) c.delta.view_is in
    let ps = pieces c.delta.inside.store in
    let k : c.min.result ≡ min c.args.at (new_len ps) = c.min.ensures ∙ ap (min c.args.at) (c.new_len.ensures.value ∙ ap new_len (sym same)) in
    let P : List Piece → Type 0 = λ qs. c.kept_before.result ≡ plain_len (take c.args.at (news 0 qs)) in
    subst P same (c.kept_before.ensures ∙ before_is ps c.args.at c.min.result c.select-position.result k c.select-position.ensures)

pub returns-clause-few : goal.returns-clause-few
returns-clause-few c =
    let same : pieces c.delta.inside.store ≡ c.args.delta.now.pieces = ap (λ (t : DeltaModel). t.pieces) c.delta.view_is in
    let ps = pieces c.delta.inside.store in
    let k : c.min.result ≡ min c.args.at (new_len ps) = c.min.ensures ∙ ap (min c.args.at) (c.new_len.ensures.value ∙ ap new_len (sym same)) in
    omega (arith, c.kept_before.ensures, before_few ps c.args.at c.min.result c.select-position.result k c.select-position.ensures)
