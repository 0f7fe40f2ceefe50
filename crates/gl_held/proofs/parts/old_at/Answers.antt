use Rattle.std.proofs.Common.{◌≡◌, ◌<◌, ◌+◌, ◌∙◌, suc, length, drop, ap, sym, subst, arith}
use Rattle.spec_lists.specs.Piece.{old_len}
use Rattle.spec_lists.specs.Sides.{olds}
use Rattle.gl_delta.specs.Old.{IsOldAt}
use Rattle.gl_delta.specs.declared.cell.Old.TheVariants.{Value}
use Rattle.gl_held.specs.Parts.{parts_of, together}
use Rattle.gl_held.proofs.OldElements.{kept_within}
use Rattle.gl_held.proofs.PartLists.{lead_from, old_from, length-parts_of, part_at}
use Rattle.gl_held.proofs.PartElements.{kept_from, told_from}
use Rattle.gl_held.proofs.parts.old_at.Goals as goal

pub old_at-requires : goal.old_at-requires
old_at-requires c =
    let arcs = c.args.parts.now in
    let low : c.parts.part < length arcs = omega (arith, c.parts-test.true) in
    let more : suc c.parts.part < length (parts_of arcs) = omega (arith, c.parts-test.true, length-parts_of arcs) in
    let got = part_at arcs c.parts.part c.index-parts-part.result c.deref.result.now low c.index-parts-part.is c.deref.ensures in
    omega (arith, c.parts.invariant.within, old_from (parts_of arcs) c.parts.part c.deref.result.now.pieces c.requires.leads got more)

pub returns-in-Value : goal.returns-in-Value
returns-in-Value c =
    let arcs = c.args.parts.now in
    let low : c.parts.part < length arcs = omega (arith, c.parts-test.true) in
    let more : suc c.parts.part < length (parts_of arcs) = omega (arith, c.parts-test.true, length-parts_of arcs) in
    let got = part_at arcs c.parts.part c.index-parts-part.result c.deref.result.now low c.index-parts-part.is c.deref.ensures in
    c.parts.invariant.same (Value c.in-Value.v) (told_from (parts_of arcs) c.parts.part c.deref.result.now.pieces c.parts.at c.in-Value.v c.requires.leads got more c.in-Value.ensures)

pub parts-preserved : goal.parts-preserved
parts-preserved c =
    let arcs = c.args.parts.now in
    let n = c.parts.part in
    let p = c.deref.result.now.pieces in
    let low : n < length arcs = omega (arith, c.parts-test.true) in
    let more : suc n < length (parts_of arcs) = omega (arith, c.parts-test.true, length-parts_of arcs) in
    let next : n + 1 ≡ suc n = omega arith in
    let got = part_at arcs n c.index-parts-part.result c.deref.result.now low c.index-parts-part.is c.deref.ensures in
    record {
      within = omega (arith, kept_within p c.parts.at c.in-Kept.later c.in-Kept.ensures, lead_from (parts_of arcs) n p c.requires.leads got more, ap (λ k. old_len (together (drop k (parts_of arcs)))) next);
      same = λ r f. c.parts.invariant.same r (kept_from (parts_of arcs) n p c.parts.at c.in-Kept.later r c.requires.leads got more c.in-Kept.ensures (subst (λ k. IsOldAt (olds 0 (together (drop k (parts_of arcs)))) c.in-Kept.later r) next f));
    }
