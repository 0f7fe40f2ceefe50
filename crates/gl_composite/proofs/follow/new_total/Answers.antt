use Rattle.std.proofs.Common.{◌<◌, ◌∙◌, ◌+◌, length, drop, slice_index_or, ap, arith}
use Rattle.std.proofs.lemmas.Option.{slice_get-get_or}
use Rattle.gl_joined.specs.Piece.{new_len}
use Rattle.gl_joined.proofs.DeltaChanges.{new_len-append}
use Rattle.gl_composite.specs.Told.{told_of, told_by}
use Rattle.gl_composite.proofs.Members.{told_split}
use Rattle.gl_composite.proofs.follow.new_total.Goals as goal

pub members-preserved : goal.members-preserved
members-preserved c =
    let deltas = c.args.deltas.now in
    let lists = c.args.lists.now in
    let lens = c.args.lens.now.lens in
    let i = c.members.index in
    let low : i < length lists = grind (arith, c.members-test.true) in
    let low_len : i < length lens = omega (arith, low, c.requires.paired) in
    let list = slice_index_or lists i 0 in
    let len = slice_index_or lens i 0 in
    let is_list = slice_get-get_or lists i 0 low in
    let is_len = slice_get-get_or lens i 0 low_len in
    let split = ap new_len (told_split deltas lists lens i list len is_list is_len) ∙ new_len-append (told_of deltas list len) (told_by deltas (drop (i + 1) lists) (drop (i + 1) lens)) in
    let counted = c.member_len.ensures.value list len is_list is_len in
    record {
      total = omega (arith, c.members.invariant.total, split, counted);
      few = omega (arith, c.members.invariant.few, c.member_len.ensures.few);
    }
