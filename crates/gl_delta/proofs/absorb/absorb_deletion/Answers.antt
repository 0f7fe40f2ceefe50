use Rattle.std.proofs.Common.{◌≡◌, ◌∙◌, ◌+◌, ◌≤◌, Some, true, false, slice_get, ap, sym, arith}
use Rattle.spec_lists.specs.Piece.{old_len, new_len}
use Rattle.gl_delta.specs.Marks.{piece_of}
use Rattle.gl_delta.specs.Pieces.{pieces, is_deleted_piece, is_inserted_piece}
use Rattle.gl_delta.proofs.Cursors.{is_next, next_get, next_within, olds_within, moved_on, olds_inserted, olds_other}
use Rattle.gl_delta.proofs.Absorption.{absorbing_few, taken_out, out_few, record_few, recorded}
use Rattle.gl_delta.proofs.absorb.absorb_deletion.Goals as goal

pub overflow_add-position : goal.overflow_add-position
overflow_add-position c =
    let ps = pieces c.args.next.now in
    let n = c.keeps_after-keeps.result in
    let h = is_next ps c.args.cursor n c.requires.cursor c.requires.more c.keeps_after-keeps.ensures in
    omega (arith, next_within ps c.args.cursor.position n h, (absorbing_few _ _ _ _ _ c.requires.left).1)

pub overflow_add-at : goal.overflow_add-at
overflow_add-at c =
    let ps = pieces c.args.next.now in
    let n = c.keeps_after-keeps.result in
    let h = is_next ps c.args.cursor n c.requires.cursor c.requires.more c.keeps_after-keeps.ensures in
    omega (arith, olds_within ps c.args.cursor n c.requires.cursor h, (absorbing_few _ _ _ _ _ c.requires.left).1)

pub take-requires-clause-within : goal.take-requires-clause-within
take-requires-clause-within c =
    let ps = pieces c.args.next.now in
    let n = c.keeps_after-keeps.result in
    let h = is_next ps c.args.cursor n c.requires.cursor c.requires.more c.keeps_after-keeps.ensures in
    next_within ps c.args.cursor.position n h

pub record-requires-clause-within : goal.record-requires-clause-within
record-requires-clause-within c =
    let ps = pieces c.args.next.now in
    let n = c.keeps_after-keeps.result in
    let h = is_next ps c.args.cursor n c.requires.cursor c.requires.more c.keeps_after-keeps.ensures in
    let s = pieces c.args.store.now in
    let test : is_deleted_piece (slice_get ps (c.args.cursor.position + n)) ≡ true = sym c.is_deleted.ensures ∙ c.if-is_deleted.true in
    let out = taken_out ps (pieces c.take.new.self) c.args.cursor n (new_len s) c.take.result c.requires.cursor h c.take.ensures.taken test c.take.ensures.rest c.requires.left.fits in
    out.within

pub record-requires-clause-few : goal.record-requires-clause-few
record-requires-clause-few c =
    let ps = pieces c.args.next.now in
    let n = c.keeps_after-keeps.result in
    let h = is_next ps c.args.cursor n c.requires.cursor c.requires.more c.keeps_after-keeps.ensures in
    let s = pieces c.args.store.now in
    let test : is_deleted_piece (slice_get ps (c.args.cursor.position + n)) ≡ true = sym c.is_deleted.ensures ∙ c.if-is_deleted.true in
    let out = taken_out ps (pieces c.take.new.self) c.args.cursor n (new_len s) c.take.result c.requires.cursor h c.take.ensures.taken test c.take.ensures.rest c.requires.left.fits in
    let less : old_len (pieces c.take.new.self) ≤ 2147483647 = omega (arith, out_few ps (pieces c.take.new.self) c.args.cursor.position n h c.take.ensures.rest, c.requires.left.fits, c.requires.left.middle) in
    record_few _ _ s ps (pieces c.take.new.self) c.take.result (c.args.cursor.at + n) _ c.requires.left out less

pub returns-then-is_deleted-clause-left : goal.returns-then-is_deleted-clause-left
returns-then-is_deleted-clause-left c =
    let ps = pieces c.args.next.now in
    let n = c.keeps_after-keeps.result in
    let h = is_next ps c.args.cursor n c.requires.cursor c.requires.more c.keeps_after-keeps.ensures in
    let s = pieces c.args.store.now in
    let test : is_deleted_piece (slice_get ps (c.args.cursor.position + n)) ≡ true = sym c.is_deleted.ensures ∙ c.if-is_deleted.true in
    let out = taken_out ps (pieces c.take.new.self) c.args.cursor n (new_len s) c.take.result c.requires.cursor h c.take.ensures.taken test c.take.ensures.rest c.requires.left.fits in
    let less : old_len (pieces c.take.new.self) ≤ 2147483647 = omega (arith, out_few ps (pieces c.take.new.self) c.args.cursor.position n h c.take.ensures.rest, c.requires.left.fits, c.requires.left.middle) in
    recorded _ _ s ps _ _ c.take.result (c.args.cursor.at + n) _ _ c.requires.left out c.record.ensures.value less c.record.ensures.room

pub returns-then-is_deleted-clause-less : goal.returns-then-is_deleted-clause-less
returns-then-is_deleted-clause-less c =
    let ps = pieces c.args.next.now in
    let n = c.keeps_after-keeps.result in
    let h = is_next ps c.args.cursor n c.requires.cursor c.requires.more c.keeps_after-keeps.ensures in
    let s = pieces c.args.store.now in
    let test : is_deleted_piece (slice_get ps (c.args.cursor.position + n)) ≡ true = sym c.is_deleted.ensures ∙ c.if-is_deleted.true in
    let out = taken_out ps (pieces c.take.new.self) c.args.cursor n (new_len s) c.take.result c.requires.cursor h c.take.ensures.taken test c.take.ensures.rest c.requires.left.fits in
    omega (arith, out.fewer, c.requires.more)

pub overflow_add-result-then-is_inserted : goal.overflow_add-result-then-is_inserted
overflow_add-result-then-is_inserted c =
    let ps = pieces c.args.next.now in
    let n = c.keeps_after-keeps.result in
    let h = is_next ps c.args.cursor n c.requires.cursor c.requires.more c.keeps_after-keeps.ensures in
    omega (arith, next_within ps c.args.cursor.position n h, (absorbing_few _ _ _ _ _ c.requires.left).1)

pub returns-then-is_inserted-clause-cursor : goal.returns-then-is_inserted-clause-cursor
returns-then-is_inserted-clause-cursor c =
    let ps = pieces c.args.next.now in
    let n = c.keeps_after-keeps.result in
    let h = is_next ps c.args.cursor n c.requires.cursor c.requires.more c.keeps_after-keeps.ensures in
    let passed : is_deleted_piece (slice_get ps (c.args.cursor.position + n)) ≡ false = sym c.is_deleted.ensures ∙ c.if-is_deleted.false in
    let get = next_get ps c.args.cursor.position n h in
    let test : is_inserted_piece (Some (piece_of h.change)) ≡ true = ap is_inserted_piece (sym get) ∙ (sym c.is_inserted.ensures ∙ c.if-is_inserted.true) in
    moved_on ps c.args.cursor n (c.args.cursor.at + n) c.requires.cursor h passed (olds_inserted h.change (c.args.cursor.at + n) test)

pub overflow_add-result-3 : goal.overflow_add-result-3
overflow_add-result-3 c =
    let ps = pieces c.args.next.now in
    let n = c.keeps_after-keeps.result in
    let h = is_next ps c.args.cursor n c.requires.cursor c.requires.more c.keeps_after-keeps.ensures in
    omega (arith, next_within ps c.args.cursor.position n h, (absorbing_few _ _ _ _ _ c.requires.left).1)

pub overflow_add-result-4 : goal.overflow_add-result-4
overflow_add-result-4 c =
    let ps = pieces c.args.next.now in
    let n = c.keeps_after-keeps.result in
    let h = is_next ps c.args.cursor n c.requires.cursor c.requires.more c.keeps_after-keeps.ensures in
    omega (arith, olds_within ps c.args.cursor n c.requires.cursor h, (absorbing_few _ _ _ _ _ c.requires.left).1)

pub returns-clause-cursor : goal.returns-clause-cursor
returns-clause-cursor c =
    let ps = pieces c.args.next.now in
    let n = c.keeps_after-keeps.result in
    let h = is_next ps c.args.cursor n c.requires.cursor c.requires.more c.keeps_after-keeps.ensures in
    let passed : is_deleted_piece (slice_get ps (c.args.cursor.position + n)) ≡ false = sym c.is_deleted.ensures ∙ c.if-is_deleted.false in
    let get = next_get ps c.args.cursor.position n h in
    let test : is_inserted_piece (Some (piece_of h.change)) ≡ false = ap is_inserted_piece (sym get) ∙ (sym c.is_inserted.ensures ∙ c.if-is_inserted.false) in
    moved_on ps c.args.cursor n (c.args.cursor.at + n + 1) c.requires.cursor h passed (olds_other h.change (c.args.cursor.at + n) test)
