use Rattle.std.proofs.Common.{◌∙◌, ◌++◌, [], ◌∷◌, None, map, take, ap, sym, arith}
use Rattle.std.specs.List.{slice_index_or}
use Rattle.std.proofs.lemmas.List.{take_more, map-append}
use Rattle.std.proofs.lemmas.Option.{slice_get-get_or}
use Rattle.gl_sorted.specs.Leaves.{ranks, leaving_of}
use Rattle.gl_sorted.proofs.leaving.candidates.Goals as goal

pub loop-index-preserved : goal.loop-index-preserved
loop-index-preserved c =
    let i = c.loop-index.invariant in
    let gs = c.args.gone.now in
    let index = c.loop-index.index in
    let one = slice_index_or gs index (record { place = 0; source = 0; partner = None }) in
    let f = leaving_of c.args.list.now.tree.places (ranks gs) (ranks c.args.came.now) in
    let is = c.candidate.ensures one (slice_get-get_or gs index (record { place = 0; source = 0; partner = None }) c.loop-index-test.true) in
    record {
      made = c.push_reserved.ensures.items ∙ (ap (λ us. us ++ c.candidate.result ∷ []) i.made ∙ (ap (λ u. map f (take index gs) ++ u ∷ []) is
          ∙ (sym (map-append f (take index gs) (one ∷ [])) ∙ ap (map f) (sym (take_more gs index (record { place = 0; source = 0; partner = None }) c.loop-index-test.true)))));
      within = omega (arith, c.loop-index-test.true);
      end = i.end;
      len = omega (arith, i.len, c.push_reserved.ensures.len);
      room = omega (arith, i.room, c.push_reserved.ensures.capacity);
    }
