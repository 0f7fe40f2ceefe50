use Rattle.std.proofs.Common.{◌≡◌, ◌∙◌, ◌+◌, ◌≤◌, ap, sym}
use Rattle.spec_lists.specs.Piece.{old_len, new_len}
use Rattle.spec_lists.specs.Changes.{changed_len}
use Rattle.gl_delta.specs.Model.{DeltaModel}
use Rattle.gl_delta.specs.Absorb.{cells_together}
use Rattle.gl_delta.specs.Pieces.{pieces, room}
use Rattle.gl_delta.proofs.Absorption.{absorbing_all, kept_absorbed}
use Rattle.gl_delta.proofs.delta.Delta.absorb.Goals as goal

pub absorb-requires : goal.absorb-requires
absorb-requires c =
    let ps = pieces c.self.inside.store in
    let qs = pieces c.next.inside.store in
    let p : ps ≡ c.args.self.now.pieces = ap (λ (t : DeltaModel). t.pieces) c.self.view_is in
    let q : qs ≡ c.args.next.pieces = ap (λ (t : DeltaModel). t.pieces) c.next.view_is in
    let r : room c.self.inside.store ≡ c.args.self.now.room = ap (λ (t : DeltaModel). t.room) c.self.view_is in
    let fits : old_len qs ≡ new_len ps = ap old_len q ∙ (c.requires.fits ∙ ap new_len (sym p)) in
    let spare : changed_len ps + cells_together ps qs ≤ room c.self.inside.store = rw p (rw q (rw r c.requires.spare)) in
    absorbing_all ps qs _ _ _ _ _ c.self.invariant c.next.invariant fits spare

pub invariant_of-self : goal.invariant_of-self
invariant_of-self c =
    let ps = pieces c.self.inside.store in
    let qs = pieces c.next.inside.store in
    let p : ps ≡ c.args.self.now.pieces = ap (λ (t : DeltaModel). t.pieces) c.self.view_is in
    let q : qs ≡ c.args.next.pieces = ap (λ (t : DeltaModel). t.pieces) c.next.view_is in
    let fits : old_len qs ≡ new_len ps = ap old_len q ∙ (c.requires.fits ∙ ap new_len (sym p)) in
    kept_absorbed ps qs (pieces c.absorb.new.store) _ _ _ _ c.self.invariant c.next.invariant fits c.absorb.ensures.value
