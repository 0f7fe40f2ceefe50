use Rattle.std.proofs.Common.{◌∙◌, length, map, ap, sym}
use Rattle.spec_views.specs.Piece.{inverted, new_len}
use Rattle.spec_views.specs.Leads.{applied}
use Rattle.spec_views.proofs.DeltaLeads.{length_from}
use Rattle.gl_kernel.proofs.Leads.{from_new}
use Rattle.gl_range.specs.declared.follow.Slices.{Slices}
use Rattle.gl_range.specs.Kept.{Kept}
use Rattle.gl_range.proofs.Tellings.{IsSlice, slice_same, follow_is}
use Rattle.gl_range.proofs.range.RangeKernel.advance.Goals as goal

pub follow-requires : goal.follow-requires
follow-requires g c = sym (length_from (map inverted c.args.d.now.pieces) (g.S.Shelf.items c.args.input.now) c.requires.leads)

pub returns-clause-pieces : goal.returns-clause-pieces
returns-clause-pieces g c =
    let ps = c.args.d.now.pieces in
    let ys = g.S.Shelf.items c.args.input.now in
    let xs = applied (map inverted ps) ys in
    let bounds = c.args.self.now.bounds in
    let leads = from_new ps ys c.old_len-normal.ensures.normal c.requires.leads in
    let same = ap (λ (k : Kept). k.bounds) c.self.view_is in
    let olds = ap (λ (k : Kept). k.len) c.self.view_is ∙ c.requires.stands in
    let before : IsSlice c.self.inside.bounds c.self.inside.len c.new.result = record { start = c.new.ensures.start; end = c.new.ensures.end } in
    let after : IsSlice c.self.inside.bounds c.new_len-len.result c.new-2.result = record { start = c.new-2.ensures.start; end = c.new-2.ensures.end } in
    let slices : Slices = record { was = c.new.result; is = c.new-2.result } in
    c.in_ok-out.ensures
    ∙ follow_is bounds bounds (length xs) (new_len ps) slices (slice_same _ _ _ _ _ same olds before) (slice_same _ _ _ _ _ same c.new_len-len.ensures.value after) ys xs ps leads.starts leads.ends

pub returns-clause-stands : goal.returns-clause-stands
returns-clause-stands g c = c.new_len-len.ensures.value ∙ sym (length_from (map inverted c.args.d.now.pieces) (g.S.Shelf.items c.args.input.now) c.requires.leads)
