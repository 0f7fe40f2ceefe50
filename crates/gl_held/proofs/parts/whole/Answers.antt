use Rattle.std.proofs.Common.{◌≡◌, ◌<◌, ◌-◌, ◌∙◌, suc, length, drop, ap, sym, arith}
use Rattle.spec_lists.specs.Piece.{old_len}
use Rattle.spec_lists.specs.Delta.{composed}
use Rattle.gl_held.specs.Parts.{parts_of, together}
use Rattle.gl_held.proofs.PartLists.{some_part, together_from, together_last, lead_from, length-parts_of, part_at}
use Rattle.gl_held.proofs.parts.whole.Goals as goal

pub parts-init : goal.parts-init
parts-init c =
    let arcs = c.args.parts.now in
    let some : 0 < length arcs = omega (arith, some_part (parts_of arcs) c.requires, length-parts_of arcs) in
    let low : length arcs - 1 < length arcs = omega (arith, some) in
    let last : suc (length arcs - 1) ≡ length (parts_of arcs) = omega (arith, some, length-parts_of arcs) in
    let got = part_at arcs (length arcs - 1) c.index-parts-left.result c.deref.result.now low c.index-parts-left.is c.deref.ensures in
    record {
      within = low;
      same = c.in_ok-whole.ensures ∙ sym (together_last (parts_of arcs) (length arcs - 1) c.deref.result.now.pieces got last);
    }

pub joined-requires : goal.joined-requires
joined-requires c =
    let arcs = c.args.parts.now in
    let n = c.parts.left - 1 in
    let p = c.deref-in-parts.result.now.pieces in
    let less : c.parts.left ≡ suc n = omega (arith, c.parts-test.true) in
    let low : n < length arcs = omega (arith, c.parts.invariant.within) in
    let more : suc n < length (parts_of arcs) = omega (arith, c.parts.invariant.within, length-parts_of arcs, less) in
    let got = part_at arcs n c.index-parts-left-in-parts.result c.deref-in-parts.result.now low c.index-parts-left-in-parts.is c.deref-in-parts.ensures in
    ap old_len (c.parts.invariant.same ∙ ap (λ k. together (drop k (parts_of arcs))) less) ∙ sym (lead_from (parts_of arcs) n p c.requires got more)

pub parts-preserved : goal.parts-preserved
parts-preserved c =
    let arcs = c.args.parts.now in
    let n = c.parts.left - 1 in
    let p = c.deref-in-parts.result.now.pieces in
    let less : c.parts.left ≡ suc n = omega (arith, c.parts-test.true) in
    let low : n < length arcs = omega (arith, c.parts.invariant.within) in
    let more : suc n < length (parts_of arcs) = omega (arith, c.parts.invariant.within, length-parts_of arcs, less) in
    let got = part_at arcs n c.index-parts-left-in-parts.result c.deref-in-parts.result.now low c.index-parts-left-in-parts.is c.deref-in-parts.ensures in
    record {
      within = low;
      same = c.in_ok-whole-2.ensures ∙ (ap (composed p) (c.parts.invariant.same ∙ ap (λ k. together (drop k (parts_of arcs))) less) ∙ sym (together_from (parts_of arcs) n p got more));
    }
