use Rattle.std.proofs.Common.{◌<◌, ◌∙◌, length, None, slice_index_or, ap, sym, arith}
use Rattle.std.specs.Option.{option_copied}
use Rattle.std.proofs.lemmas.Option.{slice_get-get_or, get_or_from_slice_get}
use Rattle.gl_joined.specs.Piece.{new_len}
use Rattle.gl_joined.proofs.Lengths.{new_len-identity}
use Rattle.gl_composite.specs.Told.{put_or_same}
use Rattle.gl_composite.proofs.Members.{of_member, same_number}
use Rattle.gl_composite.proofs.follow.member_len.Goals as goal

pub get-requires : goal.get-requires
get-requires c =
    let lists = c.args.lists.now in
    let lens = c.args.lens.now.lens in
    let i = c.args.index in
    let low : i < length lens = omega (arith, c.requires.within, c.requires.paired) in
    (of_member c.args.deltas.now lists lens i (slice_index_or lists i 0) (slice_index_or lens i 0) c.requires.deltas
    (slice_get-get_or lists i 0 c.requires.within) (slice_get-get_or lens i 0 low)).0

pub returns-in-Some-clause-value : goal.returns-in-Some-clause-value
returns-in-Some-clause-value c =
    λ list len e f.
    let at = get_or_from_slice_get c.args.lists.now c.args.index list 0 e in
    let put = sym (ap option_copied c.in-Some.is) ∙ (c.get.ensures ∙ ap (λ k. slice_index_or c.args.deltas.now k None) at) in
    c.new_len.ensures.value ∙ ap (λ o. new_len (put_or_same o len)) put

pub returns-in-None-clause-value : goal.returns-in-None-clause-value
returns-in-None-clause-value c =
    λ list len e f.
    let at = get_or_from_slice_get c.args.lists.now c.args.index list 0 e in
    let put = sym (ap option_copied c.in-None.is) ∙ (c.get.ensures ∙ ap (λ k. slice_index_or c.args.deltas.now k None) at) in
    same_number c.part_len.result len (sym c.part_len.ensures ∙ f) ∙ (sym (new_len-identity len) ∙ ap (λ o. new_len (put_or_same o len)) put)
