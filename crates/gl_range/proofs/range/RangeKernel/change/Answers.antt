use Rattle.std.proofs.Common.{◌≡◌, ◌∙◌, ◌++◌, length, refl, ap, arith}
use Rattle.spec_views.specs.Piece.{identity, normal}
use Rattle.spec_views.proofs.DeltaEdits.{identity_leads}
use Rattle.gl_range.specs.declared.follow.Slices.{Slices}
use Rattle.gl_range.specs.Kept.{Kept}
use Rattle.gl_range.specs.Told.{told_in}
use Rattle.gl_range.proofs.Tellings.{IsSlice, slice_same, follow_is, can_start}
use Rattle.gl_range.proofs.range.RangeKernel.change.Goals as goal

pub tell_keeps-requires-clause-can : goal.tell_keeps-requires-clause-can
tell_keeps-requires-clause-can g c =
    let ys = g.S.Shelf.items c.args.input.now in
    let olds = ap (λ (k : Kept). k.len) c.self.view_is ∙ c.requires.stands in
    let slices : Slices = record { was = c.new.result; is = c.new-2.result } in
    can_start ys slices c.self.inside.len c.start.result.pieces c.start.ensures (omega (arith, olds, c.requires.few))

pub returns-clause-pieces : goal.returns-clause-pieces
returns-clause-pieces g c =
    let ys = g.S.Shelf.items c.args.input.now in
    let len = c.self.inside.len in
    let same = ap (λ (k : Kept). k.bounds) c.self.view_is in
    let olds = ap (λ (k : Kept). k.len) c.self.view_is ∙ c.requires.stands in
    let before : IsSlice c.self.inside.bounds len c.new.result = record { start = c.new.ensures.start; end = c.new.ensures.end } in
    let after : IsSlice c.args.param len c.new-2.result = record { start = c.new-2.ensures.start; end = c.new-2.ensures.end } in
    let slices : Slices = record { was = c.new.result; is = c.new-2.result } in
    let param : c.args.param ≡ c.args.param = refl in
    let leads = identity_leads ys in
    c.in_ok-tell_keeps.ensures.told_is
    ∙ (ap (λ qs. normal (qs ++ told_in ys slices 0 0 (identity len))) c.start.ensures
    ∙ (ap (λ n. normal (told_in ys slices 0 0 (identity n))) olds
    ∙ follow_is c.args.self.now.bounds c.args.param (length ys) (length ys) slices
    (slice_same _ _ _ _ _ same olds before) (slice_same _ _ len (length ys) _ param olds after) ys ys (identity (length ys)) leads.starts leads.ends))
