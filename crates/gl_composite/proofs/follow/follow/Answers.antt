use Rattle.std.proofs.Common.{◌<◌, ◌≤◌, ◌∙◌, ◌+◌, ◌++◌, ◌∷◌, [], length, drop, slice_index_or, ap, sym, arith}
use Rattle.std.proofs.lemmas.Option.{slice_get-get_or}
use Rattle.gl_joined.specs.Piece.{normal}
use Rattle.gl_joined.proofs.Normal.{normal_is}
use Rattle.gl_kernel.specs.Fates.{edits_of}
use Rattle.gl_kernel.proofs.Spreads.{told_more, can_tell_whole, steps_more}
use Rattle.gl_kernel.proofs.Made.{append_nothing}
use Rattle.gl_composite.specs.Told.{told_of, told_by, fate_of, fates}
use Rattle.gl_composite.proofs.Members.{told_split, told_none, fates_split, of_member, told_olds, spoken-one}
use Rattle.gl_composite.proofs.follow.follow.Goals as goal

pub step-requires-clause-number : goal.step-requires-clause-number
step-requires-clause-number c =
    let lists = c.args.lists.now in
    let lens = c.args.lens.now.lens in
    let i = c.members.index in
    let low : i < length lists = grind (arith, c.members-test.true) in
    (of_member c.args.deltas.now lists lens i (slice_index_or lists i 0) c.part_len-len.result c.requires.deltas (slice_get-get_or lists i 0 low) c.part_len-len.ensures).0

pub step-requires-clause-few : goal.step-requires-clause-few
step-requires-clause-few c =
    let low : c.members.index < length c.args.lists.now = grind (arith, c.members-test.true) in
    omega (arith, low, c.members.invariant.position, c.requires.paired, c.len-few.ensures.value, c.len-few.ensures.few)

pub step-requires-clause-can : goal.step-requires-clause-can
step-requires-clause-can c =
    let deltas = c.args.deltas.now in
    let lists = c.args.lists.now in
    let lens = c.args.lens.now.lens in
    let i = c.members.index in
    let out = c.members.plan.out.pieces in
    let low : i < length lists = grind (arith, c.members-test.true) in
    let list = slice_index_or lists i 0 in
    let len = c.part_len-len.result in
    let split = told_split deltas lists lens i list len (slice_get-get_or lists i 0 low) c.part_len-len.ensures in
    can_tell_whole (told_by deltas lists lens) out (told_of deltas list len) (told_by deltas (drop (i + 1) lists) (drop (i + 1) lens))
    (omega (arith, told_olds deltas lists lens c.requires.paired c.requires.deltas, c.requires.olds)) c.requires.news
    (ap (λ ps. normal (out ++ ps)) (sym split) ∙ c.members.invariant.told)

pub members-preserved : goal.members-preserved
members-preserved c =
    let deltas = c.args.deltas.now in
    let lists = c.args.lists.now in
    let lens = c.args.lens.now.lens in
    let i = c.members.index in
    let out = c.members.plan.out.pieces in
    let log = c.members.plan.log.items in
    let low : i < length lists = grind (arith, c.members-test.true) in
    let list = slice_index_or lists i 0 in
    let len = c.part_len-len.result in
    let is_list = slice_get-get_or lists i 0 low in
    let split = told_split deltas lists lens i list len is_list c.part_len-len.ensures in
    let goes = c.in_ok-step.ensures in
    let more = c.step.new.plan in
    record {
      told = told_more (normal (told_by deltas lists lens)) out more.out.pieces (told_of deltas list len) (told_by deltas (drop (i + 1) lists) (drop (i + 1) lens))
          (ap (λ ps. normal (out ++ ps)) (sym split) ∙ c.members.invariant.told) goes.told_is;
      edits = steps_more (edits_of 0 (fates deltas lists)) log more.log.items (fate_of deltas list ∷ []) (fates deltas (drop (i + 1) lists)) i (i + 1)
          (ap (λ fs. log ++ edits_of i fs) (sym (fates_split deltas lists i list is_list)) ∙ c.members.invariant.edits)
          (goes.edits_are ∙ ap (λ k. log ++ edits_of k (fate_of deltas list ∷ [])) c.members.invariant.position)
          (ap (λ n. i + n) (sym (spoken-one _)));
      position = omega (arith, goes.position_is, c.members.invariant.position);
    }

pub returns-clause-told : goal.returns-clause-told
returns-clause-told c =
    let deltas = c.args.deltas.now in
    let lists = c.args.lists.now in
    let lens = c.args.lens.now.lens in
    let i = c.members.index in
    let out = c.members.plan.out.pieces in
    let later : length lists ≤ i = grind (arith, c.members-test.false) in
    sym (normal_is out c.old_len-normal.ensures.normal)
    ∙ (ap normal (sym (append_nothing out))
    ∙ (ap (λ ps. normal (out ++ ps)) (sym (told_none deltas lists lens i later)) ∙ c.members.invariant.told))
