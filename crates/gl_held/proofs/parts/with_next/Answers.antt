use Rattle.std.proofs.Common.{◌≡◌, ◌<◌, ◌-◌, ◌∙◌, ◌++◌, ◌∷◌, [], List, suc, length, take, ap, sym, subst, arith}
use Rattle.std.proofs.lemmas.List.{take_all}
use Rattle.spec_lists.specs.Delta.{Delta}
use Rattle.gl_held.specs.Parts.{GoesOn, LeadOn, parts_of}
use Rattle.gl_held.proofs.PartLists.{one_more, last_fits, merged, split_at, length-parts_of, part_at}
use Rattle.gl_held.proofs.parts.with_next.Goals as goal

pub merges-init : goal.merges-init
merges-init c =
    let arcs = c.args.parts.now in
    let d = c.args.next.now.pieces in
    let Goes : List Delta → Type 0 = λ ds. GoesOn (parts_of arcs) d ds in
    let all : take (length arcs) (parts_of arcs) ≡ parts_of arcs = take_all (length arcs) (parts_of arcs) (omega (arith, length-parts_of arcs)) in
    record {
      within = omega arith;
      goes_on = subst Goes (sym (ap (λ ds. ds ++ c.in_ok-last.last.pieces ∷ []) all ∙ ap (λ l. parts_of arcs ++ l ∷ []) c.in_ok-last.ensures)) (one_more (parts_of arcs) d c.requires.leads c.requires.fits);
    }

pub joined-requires : goal.joined-requires
joined-requires c =
    let arcs = c.args.parts.now in
    let n = c.merges.kept - 1 in
    let p = c.deref-in-merges.result.now.pieces in
    let last = c.merges.last.pieces in
    let Lead : List Delta → Type 0 = λ ds. LeadOn ds in
    let less : c.merges.kept ≡ suc n = omega (arith, c.merges-test.true) in
    let low : n < length arcs = omega (arith, c.merges.invariant.within, less) in
    let got = part_at arcs n c.index-parts-kept-in-merges.result c.deref-in-merges.result.now low c.index-parts-kept-in-merges.is c.deref-in-merges.ensures in
    let split : take c.merges.kept (parts_of arcs) ++ last ∷ [] ≡ take n (parts_of arcs) ++ p ∷ last ∷ [] =
    ap (λ k. take k (parts_of arcs) ++ last ∷ []) less ∙ split_at (parts_of arcs) n p last got in
    sym (last_fits (take n (parts_of arcs)) p last (subst Lead split c.merges.invariant.goes_on.leads))

pub merges-preserved : goal.merges-preserved
merges-preserved c =
    let arcs = c.args.parts.now in
    let d = c.args.next.now.pieces in
    let n = c.merges.kept - 1 in
    let p = c.deref-in-merges.result.now.pieces in
    let last = c.merges.last.pieces in
    let Goes : List Delta → Type 0 = λ ds. GoesOn (parts_of arcs) d ds in
    let less : c.merges.kept ≡ suc n = omega (arith, c.merges-test.true) in
    let low : n < length arcs = omega (arith, c.merges.invariant.within, less) in
    let got = part_at arcs n c.index-parts-kept-in-merges.result c.deref-in-merges.result.now low c.index-parts-kept-in-merges.is c.deref-in-merges.ensures in
    let split : take c.merges.kept (parts_of arcs) ++ last ∷ [] ≡ take n (parts_of arcs) ++ p ∷ last ∷ [] =
    ap (λ k. take k (parts_of arcs) ++ last ∷ []) less ∙ split_at (parts_of arcs) n p last got in
    record {
      within = omega (arith, c.merges.invariant.within);
      goes_on = subst Goes (ap (λ l. take n (parts_of arcs) ++ l ∷ []) (sym c.in_ok-last-2.ensures)) (merged (parts_of arcs) d (take n (parts_of arcs)) p last (subst Goes split c.merges.invariant.goes_on));
    }
