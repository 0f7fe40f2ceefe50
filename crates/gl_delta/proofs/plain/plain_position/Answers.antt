use Rattle.std.proofs.Common.{◌≡◌, ◌∙◌, ap, sym}
use Rattle.std.specs.Prelude.{Some}
use Rattle.spec_lists.specs.Sides.{news}
use Rattle.gl_delta.specs.Model.{DeltaModel}
use Rattle.gl_delta.specs.Part.{plain_position}
use Rattle.gl_delta.specs.Pieces.{pieces}
use Rattle.gl_delta.proofs.PlainPairs.{position_is, no_place}
use Rattle.gl_delta.proofs.plain.plain_position.Goals as goal

pub returns-in-Some : goal.returns-in-Some
returns-in-Some c =
    let same : pieces c.delta.inside.store ≡ c.args.delta.now.pieces = ap (λ (t : DeltaModel). t.pieces) c.delta.view_is in
    ap Some c.rank.ensures ∙ (sym (position_is (pieces c.delta.inside.store) c.args.k c.in-Some.found 0 c.in-Some.ensures.got c.in-Some.ensures.before) ∙ ap (λ ps. plain_position (news 0 ps) c.args.k) same)

pub returns-in-None : goal.returns-in-None
returns-in-None c =
    let same : pieces c.delta.inside.store ≡ c.args.delta.now.pieces = ap (λ (t : DeltaModel). t.pieces) c.delta.view_is in
    sym (no_place (pieces c.delta.inside.store) c.args.k 0 c.in-None.ensures) ∙ ap (λ ps. plain_position (news 0 ps) c.args.k) same
