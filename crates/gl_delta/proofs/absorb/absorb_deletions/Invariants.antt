use Rattle.std.proofs.Common.{◌-◌, ◌≤◌}
use Rattle.spec_lists.specs.Changes.{changed_len}
use Rattle.gl_delta.specs.Absorb.{IsAbsorbing, IsCursor}
use Rattle.gl_delta.specs.Pieces.{pieces, room}
use Rattle.gl_delta.proofs.absorb.absorb_deletions.Given as goal

abbrev pub invariant-deletions : goal.invariant-deletions
invariant-deletions l = record {
  left : IsAbsorbing (pieces l.initial.store) (pieces l.initial.next) (pieces l.store) (pieces l.next) (room l.store);
  cursor : IsCursor (pieces l.next) l.cursor;
  room : room l.initial.store ≤ room l.store;
}

abbrev pub decreases-deletions : goal.decreases-deletions
decreases-deletions l = changed_len (pieces l.next) - l.cursor.changes
