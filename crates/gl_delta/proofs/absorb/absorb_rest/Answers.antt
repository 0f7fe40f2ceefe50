use Rattle.std.proofs.Common.{◌≡◌, ◌+◌, ◌<◌, ◌≤◌, ◌++◌, arith}
use Rattle.spec_lists.specs.Piece.{identity, old_len, new_len}
use Rattle.spec_lists.specs.Changes.{changed_len}
use Rattle.gl_delta.specs.Pieces.{pieces}
use Rattle.gl_delta.proofs.Absorption.{is_ahead, changed_there, taken_first, fewer_left, rest_few, recorded, none_identity, absorbed_rest, record_few}
use Rattle.gl_delta.proofs.absorb.absorb_rest.Goals as goal

pub overflow_add-at : goal.overflow_add-at
overflow_add-at c =
    let q = pieces c.changes.next in
    let s = pieces c.changes.store in
    let n = c.keeps_after-keeps.result in
    let more : 0 < changed_len q = omega (arith, c.changes-test.true, c.changes-in-changes.ensures) in
    let h = is_ahead _ _ s q c.changes.at n _ c.changes.invariant.left c.keeps_after-keeps.ensures more in
    omega (arith, h.within, h.few)

pub take-requires-clause-within : goal.take-requires-clause-within
take-requires-clause-within c =
    let q = pieces c.changes.next in
    let s = pieces c.changes.store in
    let n = c.keeps_after-keeps.result in
    let more : 0 < changed_len q = omega (arith, c.changes-test.true, c.changes-in-changes.ensures) in
    let h = is_ahead _ _ s q c.changes.at n _ c.changes.invariant.left c.keeps_after-keeps.ensures more in
    h.within

pub take-requires-clause-changed : goal.take-requires-clause-changed
take-requires-clause-changed c =
    let q = pieces c.changes.next in
    let s = pieces c.changes.store in
    let n = c.keeps_after-keeps.result in
    let more : 0 < changed_len q = omega (arith, c.changes-test.true, c.changes-in-changes.ensures) in
    let h = is_ahead _ _ s q c.changes.at n _ c.changes.invariant.left c.keeps_after-keeps.ensures more in
    changed_there _ h.change h.there

pub record-requires-clause-within : goal.record-requires-clause-within
record-requires-clause-within c =
    let q = pieces c.changes.next in
    let s = pieces c.changes.store in
    let n = c.keeps_after-keeps.result in
    let more : 0 < changed_len q = omega (arith, c.changes-test.true, c.changes-in-changes.ensures) in
    let t = taken_first q (pieces c.take.new.self) c.changes.at n (new_len s) c.take.result c.keeps_after-keeps.ensures more c.changes.invariant.none_deleted c.take.ensures.taken c.take.ensures.rest c.changes.invariant.left.fits in
    t.0.within

pub record-requires-clause-few : goal.record-requires-clause-few
record-requires-clause-few c =
    let q = pieces c.changes.next in
    let s = pieces c.changes.store in
    let n = c.keeps_after-keeps.result in
    let more : 0 < changed_len q = omega (arith, c.changes-test.true, c.changes-in-changes.ensures) in
    let t = taken_first q (pieces c.take.new.self) c.changes.at n (new_len s) c.take.result c.keeps_after-keeps.ensures more c.changes.invariant.none_deleted c.take.ensures.taken c.take.ensures.rest c.changes.invariant.left.fits in
    let rest = identity (c.changes.at + 1) ++ pieces c.take.new.self in
    let few : old_len rest ≤ 2147483647 = rest_few _ _ _ _ rest t.0 (none_identity (c.changes.at + 1) (pieces c.take.new.self) t.1) c.changes.invariant.left.news in
    record_few _ _ s _ rest c.take.result (c.changes.at + n) _ c.changes.invariant.left t.0 few

pub record-requires-clause-spare : goal.record-requires-clause-spare
record-requires-clause-spare c =
    let q = pieces c.changes.next in
    let s = pieces c.changes.store in
    let n = c.keeps_after-keeps.result in
    let more : 0 < changed_len q = omega (arith, c.changes-test.true, c.changes-in-changes.ensures) in
    let h = is_ahead _ _ s q c.changes.at n _ c.changes.invariant.left c.keeps_after-keeps.ensures more in
    h.spare

pub overflow_add-at-in-changes : goal.overflow_add-at-in-changes
overflow_add-at-in-changes c =
    let q = pieces c.changes.next in
    let s = pieces c.changes.store in
    let n = c.keeps_after-keeps.result in
    let more : 0 < changed_len q = omega (arith, c.changes-test.true, c.changes-in-changes.ensures) in
    let h = is_ahead _ _ s q c.changes.at n _ c.changes.invariant.left c.keeps_after-keeps.ensures more in
    omega (arith, h.within, h.few)

pub changes-smaller : goal.changes-smaller
changes-smaller c =
    let q = pieces c.changes.next in
    let s = pieces c.changes.store in
    let n = c.keeps_after-keeps.result in
    let more : 0 < changed_len q = omega (arith, c.changes-test.true, c.changes-in-changes.ensures) in
    let t = taken_first q (pieces c.take.new.self) c.changes.at n (new_len s) c.take.result c.keeps_after-keeps.ensures more c.changes.invariant.none_deleted c.take.ensures.taken c.take.ensures.rest c.changes.invariant.left.fits in
    let less : changed_len (pieces c.take.new.self) < changed_len q = fewer_left _ _ c.changes.at _ q (pieces c.take.new.self) t.0 in
    less

pub changes-preserved : goal.changes-preserved
changes-preserved c =
    let q = pieces c.changes.next in
    let s = pieces c.changes.store in
    let n = c.keeps_after-keeps.result in
    let more : 0 < changed_len q = omega (arith, c.changes-test.true, c.changes-in-changes.ensures) in
    let t = taken_first q (pieces c.take.new.self) c.changes.at n (new_len s) c.take.result c.keeps_after-keeps.ensures more c.changes.invariant.none_deleted c.take.ensures.taken c.take.ensures.rest c.changes.invariant.left.fits in
    let rest = identity (c.changes.at + 1) ++ pieces c.take.new.self in
    let few : old_len rest ≤ 2147483647 = rest_few _ _ _ _ rest t.0 (none_identity (c.changes.at + 1) (pieces c.take.new.self) t.1) c.changes.invariant.left.news in
    record {
      left = recorded _ _ s _ _ rest c.take.result (c.changes.at + n) _ _ c.changes.invariant.left t.0 c.record.ensures.value few c.record.ensures.room;
      none_deleted = t.1;
      room = omega (arith, c.changes.invariant.room, c.record.ensures.room);
    }

pub returns-clause-value : goal.returns-clause-value
returns-clause-value c =
    let q = pieces c.changes.next in
    let none : changed_len q ≡ 0 = omega (arith, c.changes-test.false, c.changes-in-changes.ensures) in
    absorbed_rest _ _ (pieces c.changes.store) q c.changes.at _ c.changes.invariant.left none
